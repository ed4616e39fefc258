use Rattle.std.proofs.Common.{◌≡◌, map, take}
use Rattle.sm_map.specs.Val.{row_of}
use Rattle.sm_texts.specs.Saves.{spelled_pairs}
use Rattle.sm_texts.proofs.saves.rows_bytes.Given as goal

abbrev pub invariant-loop-row : goal.invariant-loop-row
invariant-loop-row l = l.out.items ≡ spelled_pairs (map row_of (take l.row-index l.rows))
