use Rattle.std.proofs.Common.{◌≡◌, sym, subst, ap, ◌∙◌, Option, ℕ}
use Rattle.sm_director.specs.declared.director.Director.{Director}
use Rattle.std.specs.Prelude.{unwrap_or}
use Rattle.sm_lead.specs.NextSteps.{fallen}
use Rattle.sm_director.specs.Calls.{KeepsDirector}
use Rattle.sm_director.specs.Directors.{HasControl}
use Rattle.sm_director.proofs.durkenzo_director_fallen.Goals as goal

pub returns-in-Ok-clause-told : goal.returns-in-Ok-clause-told
returns-in-Ok-clause-told c =
    let found = c.in-Ok.ensures.told in
    λ _. subst (λ (state : Option Director). KeepsDirector (λ kept. HasControl (λ control. c.number_of.result
    ≡ unwrap_or (fallen control.desk.books kept.followers.items) 0) kept) state) (sym c.state_mut.ensures.value)
    (found.0, found.1, c.number_of.ensures ∙ ap (λ (server : Option ℕ). unwrap_or server 0) found.2)
