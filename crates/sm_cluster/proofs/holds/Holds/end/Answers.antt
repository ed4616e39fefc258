use Rattle.std.proofs.Common.{◌≡◌, ◌∙◌, List, length, refl, rules, subst, sym}
use Rattle.std.specs.Prelude.{ℕ, Option}
use Rattle.std.proofs.lemmas.Option.{IfSome_then}
use Rattle.sm_rule.specs.Passes.{PassValue}
use Rattle.sm_rule.specs.lemmas.Passing.{begins_begins}
use Rattle.sm_cluster.specs.Holding.{AreEndedIn, HasEndedIn, HoldsShard}
use Rattle.sm_cluster.proofs.Holding.{EachHold, each_front, each_more, each_slot, ended_last, ended_nothing}
use Rattle.sm_calls.specs.lemmas.Passes.{begins_same}
use Rattle.sm_cluster.proofs.holds.Holds.end.Goals as goal

pub loop-slot-init : goal.loop-slot-init
loop-slot-init g c = record {
  board = c.requires.board;
  held = refl;
  seen = begins_same c.args.closer.now.seen;
  left =
      subst (EachHold (λ shard (pass : PassValue g.row.S-Request.Denot). (pass.board ≡ c.args.board.now)
      × HoldsShard pass shard)) (sym c.self.view_is)
      c.requires.theirs.each;
  ended = λ history begins all. subst
      (λ (holds : List (Option (PassValue g.row.S-Request.Denot))). AreEndedIn history holds) c.self.view_is all;
}

pub let_go-requires-clause-hold : goal.let_go-requires-clause-hold
let_go-requires-clause-hold g c κs within =
    let theirs = λ (shard : ℕ) (pass : PassValue g.row.S-Request.Denot). (pass.board ≡ c.args.board.now)
    × HoldsShard pass shard in
    let all = subst (EachHold theirs) c.in-Some.ensures.items c.loop-slot.invariant.left in
    IfSome_then c.in-Some.slot (each_slot theirs c.pop.new.self.items c.in-Some.slot all) (λ hold held. held.0)

pub loop-slot-preserved : goal.loop-slot-preserved
loop-slot-preserved g c =
    let was = c.loop-slot.invariant in
    let front = c.pop.new.self.items in
    let slot = c.in-Some.slot in
    let before = c.loop-slot.closer.seen in
    let after = c.let_go.new.closer.seen in
    let items = c.in-Some.ensures.items in
    let gone = c.let_go.ensures in
    let theirs = λ (shard : ℕ) (pass : PassValue g.row.S-Request.Denot). (pass.board ≡ c.args.board.now)
    × HoldsShard pass shard in
    record {
      board = gone.board ∙ was.board;
      held = gone.held ∙ was.held;
      seen = begins_begins c.args.closer.now.seen before after was.seen gone.seen;
      left = each_front theirs front slot (subst (EachHold theirs) items was.left);
      ended = λ history begins all.
          was.ended history (begins_begins before after history gone.seen begins)
          (subst (λ (holds : List (Option (PassValue g.row.S-Request.Denot))). AreEndedIn history holds) (sym items)
          (each_more (λ shard pass. HasEndedIn history pass) front slot all
          (ended_last slot after history gone.ended begins)));
    }

pub returns-clause-ended : goal.returns-clause-ended
returns-clause-ended g c =
    let seen = c.loop-slot.closer.seen in
    let none : length c.loop-slot.slots.items ≡ 0 = search rules in
    c.loop-slot.invariant.ended seen (begins_same seen) (ended_nothing seen c.loop-slot.slots.items none)
