-- An Index in contracts, and its invariant.
use Rattle.std.specs.Prelude.{◌≡◌, ◌<◌, ◌≤◌, ℕ, List, [], All, length}
use Rattle.std.specs.List.{HoldsAt}
use Rattle.sm_map.specs.Block.{BlockValue}
use Rattle.sm_map.specs.Blocks.{entries_in, IsSized}
use Rattle.sm_map.specs.declared.block.TheConstants.{MOST_ENTRIES, HALF_ENTRIES}
use Rattle.sm_map.specs.declared.place.Place.{Place}
use Rattle.sm_map.specs.declared.room.Room.{Room}
use Rattle.sm_map.specs.declared.room.Room.TheVariants.{Inside, Beside, Behind}

-- the blocks in order, and how many more fit without growing
pub record IndexValue : Type 0 where
  pub blocks : List BlockValue
  pub room : ℕ

-- no block is empty or too long, and len is the number of entries
pub record IsIndex (blocks : List BlockValue) (len : ℕ) : Type 0 where
  pub filled : All IsSized blocks
  pub counted : len ≡ length (entries_in blocks)

-- there is room for one more entry at the place
abbrev pub IsReady : IndexValue → Place → Room → Type 0
IsReady index place Inside =
    (place.block < length index.blocks) ×
    HoldsAt (λ block. (place.offset ≤ length block.entries) × (length block.entries < MOST_ENTRIES)
    × (0 < block.room)) index.blocks place.block
IsReady index place (Beside lower) =
    (place.block < length index.blocks) ×
    HoldsAt (λ block. (place.offset ≤ length block.entries)
    × (length block.entries ≡ MOST_ENTRIES)) index.blocks place.block ×
    (0 < index.room) × (lower.entries ≡ []) × (HALF_ENTRIES ≤ lower.room) ×
    (place.offset ≤ HALF_ENTRIES → HALF_ENTRIES < lower.room)
IsReady index place (Behind last) =
    (place.block ≡ length index.blocks) × (place.offset ≡ 0) × (0 < index.room) × (last.entries ≡ []) × (0 < last.room)
