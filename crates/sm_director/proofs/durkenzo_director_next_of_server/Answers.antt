use Rattle.std.proofs.Common.{sym, subst, ap, ◌∙◌, Option, ℕ}
use Rattle.sm_director.specs.declared.director.Director.{Director}
use Rattle.sm_lead.specs.declared.next_step.NextStep.{NextStep}
use Rattle.sm_lead.specs.NextSteps.{IsAllowed, server_step}
use Rattle.sm_director.specs.Calls.{KeepsDirector, TellsStep}
use Rattle.sm_director.specs.Directors.{HasControl}
use Rattle.sm_director.specs.Kinds.{step_parts}
use Rattle.sm_director.proofs.durkenzo_director_next_of_server.Goals as goal

pub returns-in-Ok-clause-told : goal.returns-in-Ok-clause-told
returns-in-Ok-clause-told c =
    let found = c.in-Ok.ensures.told in
    let step = found.2.0
    ∙ ap (λ (server : ℕ). server_step found.0 c.state_mut.result.now.acks.items server) c.in-Some.ensures.value in
    λ _. subst (λ (state : Option Director). KeepsDirector (λ kept. HasControl (λ control. TellsStep
    c.parts_of.result (server_step control kept.acks.items c.args.server) control) kept) state)
    (sym c.state_mut.ensures.value) (
      found.0,
      found.1,
      (
        c.parts_of.ensures ∙ ap step_parts step,
        subst (λ (it : NextStep). IsAllowed found.0 it) step found.2.1,
      ),
    )
