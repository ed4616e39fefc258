-- The value of a slot, and the span that it uses.
use Rattle.std.specs.Prelude.{◌≡◌, ◌<◌, ℕ, cond, length}
use Rattle.sm_arena.specs.declared.span.Span.{Span}
use Rattle.sm_arena.specs.Pieces.{Places, same_span, IsPlaced, bytes_of}
use Rattle.sm_arena.specs.Value.{ArenaValue, times_forgotten, forgetting}
use Rattle.sm_map.specs.KeyMap.{KeyValue}
use Rattle.sm_map.specs.KeyMap.{Text as HeldText, Count as HeldCount}
use Rattle.sm_map.specs.declared.slot.Slot.{Slot}
use Rattle.sm_map.specs.declared.slot.Slot.TheVariants.{Text, Count}

-- the value of the slot
abbrev pub held_in : Places → Slot → KeyValue
held_in placed (Text span) = HeldText (bytes_of placed span)
held_in placed (Count count) = HeldCount count

-- how often a piece's own span, or a slot, uses the span s
abbrev pub uses_piece : Span → Span → ℕ
uses_piece span s = cond (same_span span s) 1 0

abbrev pub uses_slot : Slot → Span → ℕ
uses_slot (Text span) s = uses_piece span s
uses_slot (Count count) s = 0

-- the slot's text is in the arena
abbrev pub IsReadable : Places → Slot → Type 0
IsReadable placed slot = (s : Span) → 0 < uses_slot slot s → IsPlaced placed s

-- the slot's text is in the arena, and is not forgotten
pub record IsForgettable (v : ArenaValue) (slot : Slot) : Type 0 where
  pub placed : IsReadable v.placed slot
  pub kept : (s : Span) → 0 < uses_slot slot s → 0 < length (bytes_of v.placed s) → times_forgotten v s ≡ 0

-- the arena after the slot's text is forgotten
abbrev pub forgetting_slot : ArenaValue → Slot → ArenaValue
forgetting_slot v (Text span) = forgetting v span
forgetting_slot v (Count count) = v
