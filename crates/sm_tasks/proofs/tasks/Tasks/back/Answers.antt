use Rattle.std.proofs.Common.{rules}
use Rattle.sm_tasks.proofs.tasks.Tasks.back.Goals as goal

pub returns-clause-made : goal.returns-clause-made
returns-clause-made c = search rules
