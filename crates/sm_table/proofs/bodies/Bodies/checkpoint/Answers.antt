use Rattle.std.proofs.Common.{ap}
use Rattle.sm_ownership.specs.declared.entry.Ending.TheVariants.{Checkpoint}
use Rattle.sm_table.specs.Bodies.{no_past, past_after}
use Rattle.sm_table.proofs.Maps.{same_shown, ok_shown, err_shown}
use Rattle.sm_table.proofs.bodies.Bodies.checkpoint.Goals as goal

pub returns-clause-limits : goal.returns-clause-limits
returns-clause-limits g c = same_shown (λ run. run.limit) _ _ _ _ _
    (ap (λ all. all.limits) c.self.view_is) c.index_mut.ensures.value c.checkpoint.ensures.limit

pub returns-clause-pasts : goal.returns-clause-pasts
returns-clause-pasts g c =
    let body = rw c.index.ensures.value at c.index_mut.ensures.value in
    rw c.index.ensures.value (ok_shown (λ run. run.past) (λ past. past_after past Checkpoint) no_past
    c.self.inside.bodies.items c.args.k c.index_mut.result.now c.checkpoint.new.self c.args.self.now.pasts
    c.checkpoint.result (ap (λ all. all.pasts) c.self.view_is) c.requires.known body c.checkpoint.ensures.past)

pub returns-clause-unchanged : goal.returns-clause-unchanged
returns-clause-unchanged g c =
    let body = rw c.index.ensures.value at c.index_mut.ensures.value in
    rw c.index.ensures.value (err_shown (λ run. run.past) c.self.inside.bodies.items c.args.k c.index_mut.result.now
    c.checkpoint.new.self c.args.self.now.pasts c.checkpoint.result
    (ap (λ all. all.pasts) c.self.view_is) body c.checkpoint.ensures.unchanged)
