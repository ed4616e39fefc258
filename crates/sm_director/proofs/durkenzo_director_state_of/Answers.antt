use Rattle.std.proofs.Common.{◌≡◌, sym, subst, ap, ◌∙◌, Option, ℕ}
use Rattle.sm_director.specs.declared.director.Director.{Director}
use Rattle.sm_codec.specs.Spelling.{state_number}
use Rattle.sm_lead.specs.Commands.{run_at}
use Rattle.sm_store.specs.declared.server_run.ServerRun.{ServerRun}
use Rattle.sm_director.specs.Calls.{KeepsDirector}
use Rattle.sm_director.specs.Directors.{HasControl}
use Rattle.sm_director.specs.Refusals.{IsRefusedBy, LacksServer}
use Rattle.sm_director.proofs.durkenzo_director_state_of.Goals as goal

pub returns-in-Ok-clause-told : goal.returns-in-Ok-clause-told
returns-in-Ok-clause-told c =
    let found = c.in-Ok.ensures.told in
    let run = found.2 ∙ ap (λ (server : ℕ). run_at found.0 server) c.in-Some.ensures.value in
    λ _. subst (λ (it : Option Director). KeepsDirector (HasControl (λ control.
    (c.state_number.result ≡ state_number (run_at control c.args.server).state)
    × (c.in-Ok.found.process ≡ (run_at control c.args.server).process))) it)
    (sym c.state_mut.ensures.value) (
      found.0,
      found.1,
      (
        c.state_number.ensures ∙ ap (λ (it : ServerRun). state_number it.state) run,
        ap (λ (it : ServerRun). it.process) run,
      ),
    )

pub returns-in-Err-clause-refused : goal.returns-in-Err-clause-refused
returns-in-Err-clause-refused c =
    λ _ _. subst (λ (state : Option Director). IsRefusedBy (LacksServer c.args.server) c.code_of.result state)
    (sym c.state_mut.ensures.value) (
      c.in-Err.fault,
      c.code_of.ensures.code,
      subst (λ (server : ℕ). LacksServer server c.state_mut.result.now c.in-Err.fault) c.in-Some.ensures.value
          c.in-Err.ensures.refused,
    )
