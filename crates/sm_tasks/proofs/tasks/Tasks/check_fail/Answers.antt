use Rattle.std.proofs.Common.{rules}
use Rattle.sm_tasks.proofs.tasks.Tasks.check_fail.Goals as goal

pub returns-in-Failed : goal.returns-in-Failed
returns-in-Failed c = search rules
