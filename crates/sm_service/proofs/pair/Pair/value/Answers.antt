use Rattle.std.proofs.Common.{rules}
use Rattle.sm_service.proofs.pair.Pair.value.Goals as goal

pub returns : goal.returns
returns c = search rules
