use Rattle.std.proofs.Common.{sym, subst, ap, ◌∙◌, Option, ℕ}
use Rattle.sm_director.specs.declared.director.Director.{Director}
use Rattle.sm_lead.specs.declared.next_step.NextStep.{NextStep}
use Rattle.sm_lead.specs.NextSteps.{IsAllowed, shard_step}
use Rattle.sm_director.specs.Calls.{KeepsDirector, TellsStep}
use Rattle.sm_director.specs.Directors.{HasControl}
use Rattle.sm_director.specs.Kinds.{step_parts}
use Rattle.sm_director.specs.Refusals.{IsRefusedBy, LacksShard}
use Rattle.sm_director.proofs.durkenzo_director_next_of_shard.Goals as goal

pub returns-in-Ok-clause-told : goal.returns-in-Ok-clause-told
returns-in-Ok-clause-told c =
    let found = c.in-Ok.ensures.told in
    let step = found.2.0
    ∙ ap (λ (shard : ℕ). shard_step found.0 c.state_mut.result.now.followers.items
    c.state_mut.result.now.acks.items shard) c.in-Some.ensures.value in
    λ _. subst (λ (state : Option Director). KeepsDirector (λ kept. HasControl (λ control. TellsStep
    c.parts_of.result (shard_step control kept.followers.items kept.acks.items c.args.shard) control) kept) state)
    (sym c.state_mut.ensures.value) (
      found.0,
      found.1,
      (
        c.parts_of.ensures ∙ ap step_parts step,
        subst (λ (it : NextStep). IsAllowed found.0 it) step found.2.1,
      ),
    )

pub returns-in-Err-clause-refused : goal.returns-in-Err-clause-refused
returns-in-Err-clause-refused c =
    λ _ _. subst (λ (state : Option Director). IsRefusedBy (LacksShard c.args.shard) c.code_of.result state)
    (sym c.state_mut.ensures.value) (
      c.in-Err.fault,
      c.code_of.ensures.code,
      subst (λ (shard : ℕ). LacksShard shard c.state_mut.result.now c.in-Err.fault) c.in-Some.ensures.value
          c.in-Err.ensures.refused,
    )
