use Rattle.std.proofs.Common.{refl}
use Rattle.sm_rows.specs.declared.limits.TheConstants.{MAX_GROUPS}
use Rattle.sm_tasks.proofs.Tallies.{CountsTo-none}
use Rattle.sm_tasks.proofs.groups.named_by_group.Goals as goal

pub loop-shard-init : goal.loop-shard-init
loop-shard-init c = CountsTo-none _ _ MAX_GROUPS refl
