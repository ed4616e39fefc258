-- Counters of a table, some of which were changed.
use Rattle.std.specs.Prelude.{ℕ, Option, List, length, map, slice_index, unwrap_or}
use Rattle.std.specs.List.{range_with_len}

-- the counter at a place: the one that was set there, or the table's
abbrev pub sheet_count : List ℕ → (ℕ → Option ℕ) → ℕ → ℕ
sheet_count table changed at = unwrap_or (changed at) (slice_index table at)

-- all counters
abbrev pub counts_of : List ℕ → (ℕ → Option ℕ) → List ℕ
counts_of table changed = map (sheet_count table changed) (range_with_len 0 (length table))
