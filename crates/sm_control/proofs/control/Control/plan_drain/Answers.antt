use Rattle.std.proofs.Common.{rules}
use Rattle.sm_control.proofs.control.Control.plan_drain.Goals as goal

pub returns-clause-unknown : goal.returns-clause-unknown
returns-clause-unknown c = search rules

pub returns-clause-known : goal.returns-clause-known
returns-clause-known c = search rules
