use Rattle.std.proofs.Common.{rules}
use Rattle.sm_control.proofs.control.Control.command.Goals as goal

pub returns-in-Fail-clause-answer : goal.returns-in-Fail-clause-answer
returns-in-Fail-clause-answer c = search rules
