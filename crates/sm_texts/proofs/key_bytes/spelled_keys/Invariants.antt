use Rattle.std.proofs.Common.{◌≡◌, map, take}
use Rattle.sm_map.specs.Val.{row_of}
use Rattle.sm_texts.specs.Keys.{spelled_keys}
use Rattle.sm_texts.proofs.key_bytes.spelled_keys.Given as goal

abbrev pub invariant-loop-row : goal.invariant-loop-row
invariant-loop-row l = l.out.items ≡ spelled_keys (map row_of (take l.row-index l.rows))
