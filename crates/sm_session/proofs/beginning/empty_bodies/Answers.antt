use Rattle.std.proofs.Common.{arith}
use Rattle.std.proofs.lemmas.Grind.{common_steps}
use Rattle.sm_session.proofs.beginning.empty_bodies.Goals as goal

pub loop-shard-preserved : goal.loop-shard-preserved
loop-shard-preserved c = grind (arith, common_steps)
