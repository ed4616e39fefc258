use Rattle.std.proofs.Common.{rules}
use Rattle.sm_service.proofs.pair_list.PairList.as_slice.Goals as goal

pub returns : goal.returns
returns c = search rules
