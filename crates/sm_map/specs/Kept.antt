-- The invariant of an ArenaMap: its entries are those of a key map, and use the spans of its arena.
use Rattle.std.specs.Prelude.{ℕ, List}
use Rattle.sm_arena.specs.Value.{ArenaValue, live_of, dead_of}
use Rattle.sm_map.specs.KeyMap.{IsKeyMap}
use Rattle.sm_map.specs.ArenaMap.{MapValue}
use Rattle.sm_map.specs.Stored.{IsTidy}
use Rattle.sm_map.specs.KeyEntry.{pairs_of, uses_all}
use Rattle.sm_map.specs.Blocks.{entries_in, lengths_in}
use Rattle.sm_map.specs.declared.key_entry.KeyEntry.{KeyEntry}
use Rattle.sm_map.specs.declared.arena_map.ArenaMap.TheInside.{Inside}

-- the map of these entries in an arena, in blocks of these lengths
abbrev pub map_of : ArenaValue → List KeyEntry → List ℕ → MapValue
map_of v entries lengths =
    record { pairs = pairs_of v.placed entries; bytes = live_of v; dead = dead_of v; blocks = lengths }

pub record IsMap (v : ArenaValue) (entries : List KeyEntry) : Type 0 where
  pub rising : IsKeyMap (pairs_of v.placed entries)
  pub tidy : IsTidy v (uses_all entries)

-- a map as contracts see it
abbrev pub value_of : Inside → MapValue
value_of map = map_of map.arena (entries_in map.index.blocks) (lengths_in map.index.blocks)

abbrev pub IsKept : Inside → Type 0
IsKept map = IsMap map.arena (entries_in map.index.blocks)
