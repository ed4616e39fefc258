-- The value of a pair in memory of its own.
use Rattle.sm_map.specs.KeyMap.{KeyValue}
use Rattle.sm_map.specs.KeyMap.{Text as HeldText, Count as HeldCount}
use Rattle.sm_service.specs.declared.held.Held.{Held}
use Rattle.sm_service.specs.declared.held.Held.TheVariants.{Text, Count}

-- the value in a key map for a text or a count
abbrev pub stored_as : Held → KeyValue
stored_as (Text text) = HeldText text
stored_as (Count count) = HeldCount count
