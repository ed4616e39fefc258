-- Blocks of entries: all their entries, and places in them.
use Rattle.std.specs.Prelude.{◌≡◌, ◌+◌, ◌-◌, ◌<◌, ◌≤◌, ◌⊎◌, ◌++◌, ℕ, List, [], ◌∷◌, length, map, sum, take}
use Rattle.std.specs.Prelude.{slice_index, slice_set}
use Rattle.std.specs.List.{flat_map, insert, AllWithin}
use Rattle.std.specs.declared.cmp.Ordering.TheVariants.{Less, Greater}
use Rattle.sm_ranges.specs.KeyOrder.{key_cmp}
use Rattle.sm_map.specs.KeyMap.{KeyPair}
use Rattle.sm_map.specs.Block.{BlockValue}
use Rattle.sm_map.specs.declared.block.TheConstants.{MOST_ENTRIES, HALF_ENTRIES}
use Rattle.sm_map.specs.declared.key_entry.KeyEntry.{KeyEntry}
use Rattle.sm_map.specs.declared.place.Place.{Place}

-- the entries of all blocks
abbrev pub entries_in : List BlockValue → List KeyEntry
entries_in blocks = flat_map (λ block. block.entries) blocks

-- how many entries each block has
abbrev pub lengths_in : List BlockValue → List ℕ
lengths_in blocks = map (λ block. length block.entries) blocks

abbrev pub IsSized : BlockValue → Type 0
IsSized block = (0 < length block.entries) × (length block.entries ≤ MOST_ENTRIES)

-- the lengths of two halves, one of which has one entry more
abbrev pub AreHalves : ℕ → ℕ → Type 0
AreHalves lower upper =
    ((lower ≡ HALF_ENTRIES) × (upper ≡ HALF_ENTRIES + 1)) ⊎ ((lower ≡ HALF_ENTRIES + 1) × (upper ≡ HALF_ENTRIES))

-- the blocks hold the entries one after the other; one block has 32 and the other one 33
pub record IsSplit (entries : List KeyEntry) (lower upper : BlockValue) : Type 0 where
  pub joined : lower.entries ++ upper.entries ≡ entries
  pub halves : AreHalves (length lower.entries) (length upper.entries)

-- the length there, of a full block, is replaced by those of its two halves
abbrev pub HasHalves : List ℕ → ℕ → List ℕ → Type 0
HasHalves old at new =
    (new ≡ insert (slice_set old at HALF_ENTRIES) (at + 1) (HALF_ENTRIES + 1)) ⊎
    (new ≡ insert (slice_set old at (HALF_ENTRIES + 1)) (at + 1) HALF_ENTRIES)

-- the lengths of blocks after one more entry at a place: a block that wasn't full is longer by one, or a full one was
-- split in two, or a block of one entry came behind all others
abbrev pub HasOneMore : List ℕ → Place → List ℕ → Type 0
HasOneMore old place new =
    ((place.block < length old) × (slice_index old place.block < MOST_ENTRIES) ×
    (new ≡ slice_set old place.block (slice_index old place.block + 1))) ⊎
    ((place.block < length old) × (slice_index old place.block ≡ MOST_ENTRIES) × HasHalves old place.block new) ⊎
    ((place.block ≡ length old) × (new ≡ old ++ 1 ∷ []))

-- how many entries come before a place in blocks of these lengths
abbrev pub number_of : List ℕ → Place → ℕ
number_of lengths place = sum (take place.block lengths) + place.offset

-- there is an entry at the place
abbrev pub HasEntry : List ℕ → Place → Type 0
HasEntry lengths place = (place.block < length lengths) × (place.offset < slice_index lengths place.block)

-- an entry can go there: into a block, or behind the last one
abbrev pub IsGap : List ℕ → Place → Type 0
IsGap lengths place =
    ((place.block < length lengths) × (place.offset ≤ slice_index lengths place.block)) ⊎
    ((place.block ≡ length lengths) × (place.offset ≡ 0))

-- an entry goes to this place after all others: in the last block, or behind it if it is full
abbrev pub IsEnd : List ℕ → Place → Type 0
IsEnd lengths place =
    ((place.block + 1 ≡ length lengths) × (slice_index lengths place.block < MOST_ENTRIES)) ⊎
    ((place.block ≡ length lengths) × ((k : ℕ) → k + 1 ≡ length lengths → slice_index lengths k ≡ MOST_ENTRIES))

-- each block except the last is full
abbrev pub IsPacked : List ℕ → Type 0
IsPacked lengths = (k : ℕ) → k + 1 < length lengths → slice_index lengths k ≡ MOST_ENTRIES

-- there is an entry at the place, or it is the end
abbrev pub IsStop : List ℕ → Place → Type 0
IsStop lengths place = HasEntry lengths place ⊎ ((place.block ≡ length lengths) × (place.offset ≡ 0))

-- the first entries of only this many blocks have keys below this one
pub record IsBlockGap (pairs : List KeyPair) (lengths : List ℕ) (key : List ℕ) (count : ℕ) : Type 0 where
  pub within : count ≤ length lengths
  pub before : 0 < count → AllWithin (λ pair. key_cmp pair.key key ≡ Less) pairs 0 (sum (take (count - 1) lengths) + 1)
  pub after : AllWithin (λ pair. key_cmp pair.key key ≡ Greater) pairs (sum (take count lengths)) (length pairs)
