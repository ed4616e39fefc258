use Rattle.std.proofs.Common.{◌≡◌, ℕ, ◌<◌, ◌≤◌, false, get_or, length}
use Rattle.std.specs.Prelude.{vec_capacity}
use Rattle.core.specs.Mem.Slots.{slots_filled, slots_items, slots_len}
use Rattle.core.specs.Mem.Slots.Ownership.{Filled}
use Rattle.sm_rule.specs.Closing.{AreTaken}
use Rattle.sm_rule.proofs.board.closing.emptied.Given as goal

abbrev pub invariant-loop-shard : goal.invariant-loop-shard
invariant-loop-shard g l =
    (l.closed.words ≡ l.initial.closed.words)
    × (slots_items l.closed.slots ≡ slots_items l.initial.closed.slots)
    × (slots_len l.closed.slots ≡ slots_len l.initial.closed.slots)
    × Filled (slots_filled l.closed.slots) l.shard (slots_len l.closed.slots)
    × ((k : ℕ) → k < l.shard → get_or (slots_filled l.closed.slots) k false ≡ false)
    × (length l.rows.items ≡ l.shard)
    × (slots_len l.closed.slots ≤ vec_capacity l.rows)
    × AreTaken (slots_items l.initial.closed.words) (slots_items l.initial.closed.slots) l.rows.items
