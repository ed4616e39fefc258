use Rattle.std.proofs.Common.{rules}
use Rattle.sm_control.proofs.control.Control.drop_shard.Goals as goal

pub returns-clause-answer : goal.returns-clause-answer
returns-clause-answer c = search rules
