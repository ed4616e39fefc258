use Rattle.std.proofs.Common.{rules}
use Rattle.sm_tasks.proofs.tasks.Tasks.check_back.Goals as goal

pub returns-in-Up : goal.returns-in-Up
returns-in-Up c = search rules
