use Rattle.std.proofs.Common.{rules}
use Rattle.sm_tasks.proofs.counts.leaving_count.Goals as goal

pub returns : goal.returns
returns c = search rules
