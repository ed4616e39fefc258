use Rattle.std.proofs.Common.{◌≡◌, map, take}
use Rattle.sm_map.specs.Val.{row_of}
use Rattle.sm_service.proofs.pair_list.PairList.new.Given as goal

abbrev pub invariant-loop-row : goal.invariant-loop-row
invariant-loop-row l = l.pairs.items ≡ map row_of (take l.row-index l.rows)
