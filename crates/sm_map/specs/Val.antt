-- The value of a caller, and the pair that a caller gets.
use Rattle.std.specs.Prelude.{ℕ, List}
use Rattle.std.specs.Borrow.{Bor}
use Rattle.sm_map.specs.KeyMap.{KeyValue, KeyPair}
use Rattle.sm_map.specs.KeyMap.{Text as HeldText, Count as HeldCount}
use Rattle.sm_map.specs.declared.val.Val.{Val}
use Rattle.sm_map.specs.declared.val.Val.TheVariants.{Text, Count}

-- a caller's value
abbrev pub held_of : Val → KeyValue
held_of (Text text) = HeldText text.now
held_of (Count count) = HeldCount count

-- the pair that a caller gets
abbrev pub row_of : Bor (List ℕ) × Val → KeyPair
row_of row = record { key = row.0.now; value = held_of row.1 }
