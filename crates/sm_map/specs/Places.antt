-- The order of places.
use Rattle.std.specs.Prelude.{Bool, ◌&&◌, ◌||◌, ◌==◌, nat_lt}
use Rattle.sm_map.specs.declared.place.Place.{Place}

-- the first place comes before the second
abbrev pub precedes : Place → Place → Bool
precedes first second =
    nat_lt first.block second.block || ((first.block == second.block) && nat_lt first.offset second.offset)
