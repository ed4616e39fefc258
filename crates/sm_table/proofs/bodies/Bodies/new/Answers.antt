use Rattle.std.proofs.Common.{◌≡◌, [], subst, sym, refl}
use Rattle.std.specs.Prelude.{All, length, map, replicate}
use Rattle.std.proofs.lemmas.List.Elements.{All-tail}
use Rattle.sm_table.specs.Bodies.{no_past}
use Rattle.sm_table.proofs.Maps.{moved_none, moved_on}
use Rattle.sm_table.proofs.bodies.Bodies.new.Goals as goal

pub loop-body-init : goal.loop-body-init
loop-body-init g c =
    let none = c.in_ok-traced.ensures.items in
    let same = c.into_iter-body-iterator.ensures.into_iter_gives.0 in
    record {
      pasts = moved_none (λ run. run.past) (λ left. replicate (length left) no_past) c.in_ok-traced.traced.items
          c.into_iter-body-iterator.result.rest.items c.args.bodies.items none same;
      limits = moved_none (λ run. run.limit) (map g.S.Service.limit) c.in_ok-traced.traced.items
          c.into_iter-body-iterator.result.rest.items c.args.bodies.items none same;
      initial = subst (All (λ body. g.S.Service.base body ≡ g.S.Service.initial)) (sym same) c.requires.initial;
      first = subst (All (λ body. g.S.Service.before body ≡ 0)) (sym same) c.requires.first;
      empty = subst (All (λ body. g.S.Service.requests body ≡ [])) (sym same) c.requires.empty;
    }

pub loop-body-preserved : goal.loop-body-preserved
loop-body-preserved g c =
    let left = c.loop-body.body-iterator.rest.items in
    let rest = c.next.new.self.rest.items in
    let taken = c.in-Some.ensures.steps.0 in
    let grown = c.in_ok-push.ensures.items in
    record {
      pasts = moved_on (λ run. run.past)
          (λ some. replicate (length some) no_past) c.loop-body.traced.items c.push.new.self.items c.new.result
          c.in-Some.body left rest no_past _ refl grown taken c.new.ensures.past c.loop-body.invariant.pasts;
      limits = moved_on (λ run. run.limit) (map g.S.Service.limit) c.loop-body.traced.items c.push.new.self.items
          c.new.result c.in-Some.body left rest _ _ refl grown taken c.new.ensures.limit c.loop-body.invariant.limits;
      initial = All-tail (λ body. g.S.Service.base body ≡ g.S.Service.initial) c.in-Some.body rest
          (subst (All (λ body. g.S.Service.base body ≡ g.S.Service.initial)) taken c.loop-body.invariant.initial);
      first = All-tail (λ body. g.S.Service.before body ≡ 0) c.in-Some.body rest
          (subst (All (λ body. g.S.Service.before body ≡ 0)) taken c.loop-body.invariant.first);
      empty = All-tail (λ body. g.S.Service.requests body ≡ []) c.in-Some.body rest
          (subst (All (λ body. g.S.Service.requests body ≡ [])) taken c.loop-body.invariant.empty);
    }
