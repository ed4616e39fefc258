use Rattle.std.proofs.Common.{sym, subst, Option, Some, ℕ}
use Rattle.sm_director.specs.declared.director.Director.{Director}
use Rattle.sm_director.specs.Calls.{DirectsOn}
use Rattle.sm_director.specs.Directors.{AddsFollower}
use Rattle.sm_director.proofs.durkenzo_director_follower.Goals as goal

pub returns-in-Ok-clause-made : goal.returns-in-Ok-clause-made
returns-in-Ok-clause-made c =
    λ _. subst (λ (state : Option Director). DirectsOn (AddsFollower c.args.server c.args.revision) state
    (Some c.add_follower.new.self)) (sym c.state_mut.ensures.value)
    (subst (λ (server : ℕ). AddsFollower server c.args.revision c.state_mut.result.now c.add_follower.new.self)
    c.in-Some.ensures.value c.in-Ok.ensures.added)
