use Rattle.std.proofs.Common.{sym, subst, ap, ◌∙◌, Option, ℕ}
use Rattle.sm_lead.specs.declared.next_step.NextStep.{NextStep}
use Rattle.sm_lead.specs.NextSteps.{IsAllowed}
use Rattle.sm_director.specs.declared.director.Director.{Director}
use Rattle.sm_director.specs.Calls.{KeepsDirector, TellsStep}
use Rattle.sm_director.specs.Directors.{HasControl, drain_step, vacant_step}
use Rattle.sm_director.specs.Kinds.{step_parts}
use Rattle.sm_director.proofs.durkenzo_director_next_of_drain.Goals as goal

pub returns-in-Ok-clause-vacant : goal.returns-in-Ok-clause-vacant
returns-in-Ok-clause-vacant c =
    let found = c.in-Ok.ensures.told in
    λ _ _. subst (λ (state : Option Director). KeepsDirector (HasControl (λ control. TellsStep c.parts_of.result
    (vacant_step control) control)) state) (sym c.state_mut.ensures.value) (
      found.0,
      found.1,
      (
        c.parts_of.ensures ∙ ap step_parts found.2.0,
        subst (λ (it : NextStep). IsAllowed found.0 it) found.2.0 found.2.1,
      ),
    )

pub returns-in-Ok-next_of_drain-clause-drain : goal.returns-in-Ok-next_of_drain-clause-drain
returns-in-Ok-next_of_drain-clause-drain c =
    let found = c.in-Ok-next_of_drain.ensures.told in
    let step = found.2.0 ∙ ap (λ (server : ℕ). drain_step found.0 server) c.in-Some.ensures.value in
    λ _ _. subst (λ (state : Option Director). KeepsDirector (HasControl (λ control. TellsStep
    c.parts_of-in-Ok-next_of_drain.result (drain_step control c.args.server) control)) state)
    (sym c.state_mut-2.ensures.value) (
      found.0,
      found.1,
      (
        c.parts_of-in-Ok-next_of_drain.ensures ∙ ap step_parts step,
        subst (λ (it : NextStep). IsAllowed found.0 it) step found.2.1,
      ),
    )
