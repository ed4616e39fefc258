-- Positions of keys in a map.
use Rattle.std.specs.Prelude.{ℕ, List, Result, Ok, Err}
use Rattle.sm_ranges.specs.Keyed.{IsKeyPlace, IsKeyGap}
use Rattle.sm_map.specs.KeyMap.{key_of, IsKeyMap}
use Rattle.sm_map.specs.ArenaMap.{MapValue}
use Rattle.sm_map.specs.Blocks.{number_of, HasEntry, IsGap}
use Rattle.sm_map.specs.declared.place.Place.{Place}
use Rattle.sm_map.specs.declared.position.Position.{Position}

-- the key's pair is at this place, or would go to it
abbrev pub StandsAt : MapValue → List ℕ → Result Place Place → Type 0
StandsAt v key (Ok place) = HasEntry v.blocks place × IsKeyPlace key_of v.pairs key (number_of v.blocks place)
StandsAt v key (Err place) = IsGap v.blocks place × IsKeyGap key_of v.pairs key (number_of v.blocks place)

-- the position is that of its key in the map
pub record IsPositionIn (v : MapValue) (position : Position) : Type 0 where
  pub rising : IsKeyMap v.pairs
  pub stands : StandsAt v position.key.now position.place
