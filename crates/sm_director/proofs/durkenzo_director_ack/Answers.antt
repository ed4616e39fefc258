use Rattle.std.proofs.Common.{sym, subst, Option, Some, ℕ}
use Rattle.sm_director.specs.declared.director.Director.{Director}
use Rattle.sm_director.specs.Calls.{DirectsOn}
use Rattle.sm_director.specs.Directors.{AddsAck}
use Rattle.sm_director.proofs.durkenzo_director_ack.Goals as goal

pub returns-in-Ok-clause-made : goal.returns-in-Ok-clause-made
returns-in-Ok-clause-made c =
    λ _. subst (λ (state : Option Director). DirectsOn (AddsAck c.args.shard c.args.server c.args.generation) state
    (Some c.add_ack.new.self)) (sym c.state_mut.ensures.value)
    (subst (λ (server : ℕ). AddsAck c.args.shard server c.args.generation c.state_mut.result.now c.add_ack.new.self)
    c.in-Some-new.ensures.value
    (subst
    (λ (shard : ℕ). AddsAck shard c.in-Some-new.server c.args.generation c.state_mut.result.now c.add_ack.new.self)
    c.in-Some.ensures.value c.in-Ok.ensures.added))
