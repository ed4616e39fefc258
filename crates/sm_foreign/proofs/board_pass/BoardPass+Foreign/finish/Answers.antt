use Rattle.std.proofs.Common.{rules, subst, Option}
use Rattle.sm_ownership.specs.declared.entry.Ending.TheVariants.{Nothing}
use Rattle.sm_rule.specs.Admissions.{PermitValue}
use Rattle.sm_foreign.specs.declared.foreign.Foreign.{Foreign}
use Rattle.sm_foreign.specs.Holding.{EndsPermit, ForeignValue}
use Rattle.sm_foreign.proofs.board_pass.BoardPass+Foreign.finish.Goals as goal

pub returns-in-Some-clause-ended : goal.returns-in-Some-clause-ended
returns-in-Some-clause-ended c = (
  subst (λ (held : ForeignValue). EndsPermit held.1 held.0 c.finish.new.pass c.finish.result.generation) c.self.view_is
      (subst (λ (permit : Option (PermitValue Foreign)).
      EndsPermit permit c.self.inside.pass c.finish.new.pass c.finish.result.generation) c.in-Some.ensures.value
      (c.finish.ensures.done Nothing (search rules), c.finish.ensures.generation)),
  c.in-Some.ensures.after,
)
