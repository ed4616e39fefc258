use Rattle.std.proofs.Common.{arith}
use Rattle.std.proofs.lemmas.Grind.{common_steps}
use Rattle.sm_handle.proofs.serving.empty_bodies.Goals as goal

pub loop-shard-preserved : goal.loop-shard-preserved
loop-shard-preserved c = grind (arith, common_steps)
