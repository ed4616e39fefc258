use Rattle.std.proofs.Common.{◌≡◌, ℕ, ◌≤◌, ◌+◌, length, map}
use Rattle.std.specs.List.{between}
use Rattle.sm_map.specs.Val.{row_of}
use Rattle.sm_map.specs.Blocks.{number_of}
use Rattle.sm_map.proofs.arena_map.ArenaMap.with_rows.Given as goal

abbrev pub invariant-loop-entry : goal.invariant-loop-entry
invariant-loop-entry l = record {
  count : length l.rows.items ≡ length l.initial.rows.items + l.entry-index;
  rows : (start : ℕ) → start ≤ number_of l.self.blocks l.fn.place
      → map row_of l.initial.rows.items ≡ between start (number_of l.self.blocks l.fn.place) l.self.pairs
      → map row_of l.rows.items ≡ between start (number_of l.self.blocks l.fn.place + l.entry-index) l.self.pairs;
}
