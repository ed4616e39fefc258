-- The facts about the position of a key, if its pair is there, and if it isn't.
use Rattle.std.proofs.Common.{◌≡◌, Result, Ok, Err, subst}
use Rattle.sm_ranges.specs.Keyed.{IsKeyPlace, IsKeyGap}
use Rattle.sm_map.specs.KeyMap.{key_of}
use Rattle.sm_map.specs.ArenaMap.{MapValue}
use Rattle.sm_map.specs.Blocks.{number_of, HasEntry, IsGap}
use Rattle.sm_map.specs.Position.{StandsAt, IsPositionIn}
use Rattle.sm_map.specs.declared.place.Place.{Place}
use Rattle.sm_map.specs.declared.position.Position.{Position}

module _ (v : MapValue) (position : Position) (is : IsPositionIn v position) (place : Place) where
  pub place_there : position.place ≡ Ok place
      → HasEntry v.blocks place × IsKeyPlace key_of v.pairs position.key.now (number_of v.blocks place)
  place_there there = subst (λ (r : Result Place Place). StandsAt v position.key.now r) there is.stands

  pub gap_there : position.place ≡ Err place
      → IsGap v.blocks place × IsKeyGap key_of v.pairs position.key.now (number_of v.blocks place)
  gap_there there = subst (λ (r : Result Place Place). StandsAt v position.key.now r) there is.stands
