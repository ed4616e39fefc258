-- Layouts whose bounds are parts of a text.
use Rattle.std.specs.Prelude.{ℕ, ◌≡◌, ◌≤◌, ◌<◌, ◌⊎◌, ⊤, Any, List, length, map, slice_get, slice_range, take}
use Rattle.std.specs.Prelude.{Option, Some}
use Rattle.sm_ranges.specs.Ranges.{IsLayout, shard_of}
use Rattle.sm_ranges.specs.LayoutFault.{first_layout_fault}
use Rattle.sm_ranges.specs.declared.layout.LayoutFault.TheVariants.{NoMemory}
use Rattle.sm_handle_state.specs.declared.act_fault.ActFault.{ActFault}
use Rattle.sm_handle_state.specs.declared.act_fault.ActFault.TheVariants.{TooShort, UnknownShard, WrongHandle}
use Rattle.sm_handle_state.specs.declared.cut_fault.CutFault.{CutFault}
use Rattle.sm_handle_state.specs.declared.cut_fault.CutFault.TheVariants.{Layout as NoLayout, Outside}
use Rattle.sm_handle_state.specs.declared.handle_state.HandleState.{HandleState}
use Rattle.sm_handle_state.specs.declared.handle_state.HandleState.TheVariants.{Layout}
use Rattle.sm_handle_state.specs.declared.text_part.TextPart.{TextPart}

-- the bytes of this part
abbrev pub part_of : List ℕ → TextPart → List ℕ
part_of text part = slice_range text part.start part.end

-- the bytes of these parts
abbrev pub parts_of : List ℕ → List TextPart → List (List ℕ)
parts_of text parts = map (λ part. part_of text part) parts

-- the handle keeps the layout whose bounds are these parts of the text
abbrev pub IsLayoutOf : Option HandleState → List ℕ → List TextPart → Type 0
IsLayoutOf (Some (Layout bounds)) text parts = (bounds ≡ parts_of text parts) × IsLayout bounds
IsLayoutOf state text parts = ⊥

-- the handle keeps a layout that gives the key to this shard
abbrev pub IsShardOf : Option HandleState → List ℕ → ℕ → Type 0
IsShardOf (Some (Layout bounds)) key shard = shard ≡ shard_of bounds key
IsShardOf state key shard = ⊥

-- the handle keeps no layout
abbrev pub KeepsNoLayout : Option HandleState → Type 0
KeepsNoLayout (Some (Layout bounds)) = ⊥
KeepsNoLayout state = ⊤

-- the handle keeps a layout in which the shard begins at the first so many of these bytes
abbrev pub WritesBound : Option HandleState → ℕ → List ℕ → ℕ → Type 0
WritesBound (Some (Layout bounds)) shard written count = slice_get bounds shard ≡ Some (take count written)
WritesBound state shard written count = ⊥

-- why no bound is written: the handle keeps no layout, or the layout hasn't this shard, or the bound at which the
-- shard begins has more bytes than this room
abbrev pub HasNoBound : Option HandleState → ℕ → List ℕ → ActFault → Type 0
HasNoBound (Some (Layout bounds)) shard room fault =
    ((fault ≡ UnknownShard) × (length bounds ≤ shard))
    ⊎ ((low : List ℕ) × (slice_get bounds shard ≡ Some low) × (length room < length low) × (fault ≡ TooShort))
HasNoBound state shard room fault = fault ≡ WrongHandle

-- this part isn't within the text
abbrev pub IsOutside : List ℕ → TextPart → Type 0
IsOutside text part = (part.end < part.start) ⊎ (length text < part.end)

-- why parts of the text are no layout: one of them isn't within it, or they break a rule of layouts, or memory was
-- refused
abbrev pub CutsNothing : List ℕ → List TextPart → CutFault → Type 0
CutsNothing text parts Outside = Any (IsOutside text) parts
CutsNothing text parts (NoLayout NoMemory) = ⊤
CutsNothing text parts (NoLayout fault) = Some fault ≡ first_layout_fault (parts_of text parts)
