-- The pairs of entries, and which spans they use.
use Rattle.std.specs.Prelude.{ℕ, ◌+◌, List, map, All}
use Rattle.std.specs.List.{sum_by}
use Rattle.sm_arena.specs.declared.span.Span.{Span}
use Rattle.sm_arena.specs.Pieces.{Places, IsPlaced, bytes_of}
use Rattle.sm_map.specs.KeyMap.{KeyPair}
use Rattle.sm_map.specs.Slot.{held_in, uses_piece, uses_slot}
use Rattle.sm_map.specs.declared.key_entry.KeyEntry.{KeyEntry}

-- the pair of an entry: the bytes of its key, and the value of its slot
abbrev pub pair_of : Places → KeyEntry → KeyPair
pair_of placed entry = record { key = bytes_of placed entry.key; value = held_in placed entry.slot }

-- the pairs of entries
abbrev pub pairs_of : Places → List KeyEntry → List KeyPair
pairs_of placed entries = map (pair_of placed) entries

-- how often an entry, or a list of them, uses the span s
abbrev pub uses_entry : KeyEntry → Span → ℕ
uses_entry entry s = uses_piece entry.key s + uses_slot entry.slot s

abbrev pub uses_all : List KeyEntry → Span → ℕ
uses_all entries s = sum_by (λ entry. uses_entry entry s) entries

-- the key of each entry is in the arena
abbrev pub HasKeys : Places → List KeyEntry → Type 0
HasKeys placed entries = All (λ entry. IsPlaced placed entry.key) entries
