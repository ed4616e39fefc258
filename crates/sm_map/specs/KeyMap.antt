-- Key maps: pairs of a key and its value, with distinct keys, in the order of the keys.
use Rattle.std.specs.Prelude.{◌≡◌, ℕ, ℤ, ◌≤◌, ◌+◌, true, false, not, ◌&&◌, List, [], Option, Some, None, filter, find}
use Rattle.std.specs.Prelude.{length, unwrap_or}
use Rattle.std.specs.List.Sorted.{IsPartitionPoint}
use Rattle.std.specs.Option.{option_map}
use Rattle.sm_ranges.specs.Keyed.{IsInKeyOrder, comes_before, has_key, with_key, without_key}

-- a key's value: the bytes of a text, or a count
pub data KeyValue : Type 0 where
  Text : List ℕ → KeyValue
  Count : ℤ → KeyValue

-- a key and its value
pub record KeyPair : Type 0 where
  pub key : List ℕ
  pub value : KeyValue

-- the key of a pair
abbrev pub key_of : KeyPair → List ℕ
key_of pair = pair.key

-- the pairs are in the order of their keys, and no two have the same key
abbrev pub IsKeyMap : List KeyPair → Type 0
IsKeyMap m = IsInKeyOrder key_of m

-- the map's value at the key
abbrev pub held_at : List KeyPair → List ℕ → Option KeyValue
held_at m key = option_map (λ pair. pair.value) (find (has_key key_of key) m)

-- the map m, except that it holds this value at the key
abbrev pub holding : List KeyPair → List ℕ → KeyValue → List KeyPair
holding m key value = with_key key_of m key (record { key = key; value = value })

-- the map m, except that it holds nothing at the key
abbrev pub without : List KeyPair → List ℕ → List KeyPair
without m key = without_key key_of m key

-- the pairs with keys from low up to, but without, high, in order
abbrev pub within : List KeyPair → List ℕ → List ℕ → List KeyPair
within m low high = filter (λ pair. not (comes_before key_of low pair) && comes_before key_of high pair) m

-- the text that is held, or no bytes if none is
abbrev pub text_of : Option KeyValue → List ℕ
text_of None = []
text_of (Some (Text text)) = text
text_of (Some (Count count)) = []

abbrev pub IsText : KeyValue → Type 0
IsText held = held ≡ Text (text_of (Some held))

-- the text at a key, or the empty one
abbrev pub text_at : List KeyPair → List ℕ → List ℕ
text_at m key = text_of (held_at m key)

-- the key holds a text
abbrev pub HoldsText : List KeyPair → List ℕ → Type 0
HoldsText m key = held_at m key ≡ Some (Text (text_at m key))

-- how many bytes a pair has, in its key and its text
abbrev pub size_of : KeyPair → ℕ
size_of pair = length pair.key + length (text_of (Some pair.value))

-- how many bytes the pair with the key has, or 0 if there is none
abbrev pub size_at : List KeyPair → List ℕ → ℕ
size_at m key = unwrap_or (option_map size_of (find (has_key key_of key) m)) 0

-- only the pairs before this place are below the key
pub record IsEdgeOf (m : List KeyPair) (key : List ℕ) (at : ℕ) : Type 0 where
  pub within : at ≤ length m
  pub apart :
      IsPartitionPoint (λ pair. comes_before key_of key pair ≡ true) (λ pair. comes_before key_of key pair ≡ false) m at
