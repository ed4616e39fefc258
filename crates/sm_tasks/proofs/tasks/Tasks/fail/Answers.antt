use Rattle.std.proofs.Common.{rules}
use Rattle.sm_tasks.proofs.tasks.Tasks.fail.Goals as goal

pub returns-clause-answer : goal.returns-clause-answer
returns-clause-answer c = search rules
