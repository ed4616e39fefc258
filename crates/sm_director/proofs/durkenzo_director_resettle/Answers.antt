use Rattle.std.proofs.Common.{sym, subst, ap, ◌∙◌, Option}
use Rattle.std.specs.Prelude.{Some, unwrap_or}
use Rattle.sm_director.specs.declared.director.Director.{Director}
use Rattle.sm_director.specs.declared.director_fault.DirectorFault.{DirectorFault}
use Rattle.sm_director.specs.Resettlings.{KeepsBoth, RefusesByCode, RefusesResettling, SendsSettings, in_use}
use Rattle.sm_director.specs.Refusals.{AreRefusedBy}
use Rattle.sm_director.proofs.durkenzo_director_resettle.Goals as goal

pub returns-in-Ok-clause-sent : goal.returns-in-Ok-clause-sent
returns-in-Ok-clause-sent c = λ _.
    subst (λ (one : Option Director). KeepsBoth (λ kept drafted. SendsSettings kept drafted c.resettle.new.numbers
    c.resettle.new.into) one c.args.other.now.owned.state) (sym c.state_mut-kept.ensures.value)
    (subst (λ (other : Option Director). KeepsBoth (λ kept drafted. SendsSettings kept drafted c.resettle.new.numbers
    c.resettle.new.into) (Some c.state_mut-kept.result.now) other)
    (sym c.state_mut-drafted.ensures.value) c.in-Ok.ensures.sent)

pub returns-in-Err-clause-refused : goal.returns-in-Err-clause-refused
returns-in-Err-clause-refused c = λ high.
    let why = c.code_of.ensures.settings high in
    let server = c.number_of.ensures ∙ ap (λ found. unwrap_or found 0) (c.in_use.ensures ∙ ap in_use why.1) in
    subst (λ (one : Option Director). KeepsBoth (λ kept drafted. RefusesByCode kept drafted c.code_of.result
    c.number_of.result) one c.args.other.now.owned.state) (sym c.state_mut-kept.ensures.value)
    (subst (λ (other : Option Director). KeepsBoth (λ kept drafted. RefusesByCode kept drafted c.code_of.result
    c.number_of.result) (Some c.state_mut-kept.result.now) other)
    (sym c.state_mut-drafted.ensures.value) (
      why.0,
      why.2,
      server,
      subst (λ (fault : DirectorFault). RefusesResettling c.state_mut-kept.result.now c.state_mut-drafted.result.now
          fault) why.1
          c.in-Err.ensures.refused,
    ))

pub returns-in-Err-clause-unsent : goal.returns-in-Err-clause-unsent
returns-in-Err-clause-unsent c = λ _.
    subst (λ (one : Option Director). AreRefusedBy RefusesResettling c.code_of.result one c.args.other.now.owned.state)
    (sym c.state_mut-kept.ensures.value)
    (subst (λ (other : Option Director). AreRefusedBy RefusesResettling c.code_of.result
    (Some c.state_mut-kept.result.now) other) (sym c.state_mut-drafted.ensures.value)
    (c.in-Err.fault, c.code_of.ensures.code, c.in-Err.ensures.refused))
