use Rattle.std.proofs.Common.{rules}
use Rattle.sm_tasks.proofs.tasks.Tasks.new.Goals as goal

pub returns : goal.returns
returns c = search rules
