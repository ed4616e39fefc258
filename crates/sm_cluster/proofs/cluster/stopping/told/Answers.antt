use Rattle.std.proofs.Common.{◌≡◌, ◌∙◌, ap, length, refl, rules, subst, sym}
use Rattle.std.specs.Prelude.{All}
use Rattle.std.proofs.lemmas.List.Elements.{All-cons, All-tail}
use Rattle.sm_rule.specs.Passes.{PassValue}
use Rattle.sm_rule.specs.Views.{Begins}
use Rattle.sm_rule.specs.lemmas.Passing.{begins_begins, looks_begins, met_begins}
use Rattle.sm_calls.specs.Calls.{ClientValue}
use Rattle.sm_cluster.proofs.Stopping.{all_of_nobody}
use Rattle.sm_calls.specs.lemmas.Passes.{begins_same}
use Rattle.sm_cluster.proofs.cluster.stopping.told.Goals as goal

pub loop-client-init : goal.loop-client-init
loop-client-init g c =
    let same = c.into_iter-client-iterator.ensures.into_iter_gives.0 in
    record {
      board = c.requires.board;
      held = refl;
      told = begins_same c.args.teller.seen;
      left = subst (All (λ (client : ClientValue g.row.S-Request.Denot). client.pass.board ≡ c.args.board.now))
          (sym same) c.requires.clients;
      seen = λ history begins all. subst
          (All (λ (client : ClientValue g.row.S-Request.Denot). Begins client.pass.seen history)) same all;
    }

pub loop-client-preserved : goal.loop-client-preserved
loop-client-preserved g c =
    let was = c.loop-client.invariant in
    let taken = c.in-Some.ensures.steps.0 in
    let client = c.in-Some.client in
    let rest = c.next.new.self.rest.items in
    let looks = c.meet.ensures.looks in
    let closer = c.loop-client.closer in
    let after = c.meet.new.pass in
    let note = c.into_note.ensures ∙ c.into_pass.ensures.pass in
    let met : Begins client.pass.seen after.seen =
    subst (λ (pass : PassValue g.row.S-Request.Denot). Begins pass.seen after.seen) note
    (met_begins c.into_note.result.number c.into_note.result.seen after.seen c.meet.ensures.met) in
    record {
      board = ap (λ (pass : PassValue g.row.S-Request.Denot). pass.board) looks.1 ∙ was.board;
      held = ap (λ (pass : PassValue g.row.S-Request.Denot). pass.held) looks.1 ∙ was.held;
      told = begins_begins c.args.teller.seen closer.seen after.seen was.told (looks_begins closer after looks);
      left =
          All-tail (λ (one : ClientValue g.row.S-Request.Denot). one.pass.board ≡ c.args.board.now) client rest
          (subst (All (λ (one : ClientValue g.row.S-Request.Denot). one.pass.board ≡ c.args.board.now)) taken was.left);
      seen = λ history begins all.
          was.seen history (begins_begins closer.seen after.seen history (looks_begins closer after looks) begins)
          (subst (All (λ (one : ClientValue g.row.S-Request.Denot). Begins one.pass.seen history)) (sym taken)
          (All-cons (λ (one : ClientValue g.row.S-Request.Denot). Begins one.pass.seen history) client rest
          (begins_begins client.pass.seen after.seen history met begins) all));
    }

pub returns-clause-seen : goal.returns-clause-seen
returns-clause-seen g c =
    let none : length c.loop-client.client-iterator.rest.items ≡ 0 = search rules in
    c.loop-client.invariant.seen c.loop-client.closer.seen (begins_same c.loop-client.closer.seen)
    (all_of_nobody (λ (client : ClientValue g.row.S-Request.Denot). Begins client.pass.seen c.loop-client.closer.seen)
    c.loop-client.client-iterator.rest.items none)
