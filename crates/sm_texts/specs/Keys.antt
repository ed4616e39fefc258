-- The bytes that encode keys: each key, with its length before it.
use Rattle.std.specs.Prelude.{ℕ, List, ◌++◌, length}
use Rattle.std.specs.List.{flat_map}
use Rattle.std.specs.Int.{w64, to_be_bytes}
use Rattle.sm_map.specs.KeyMap.{KeyPair}

-- a key, behind its length in 8 bytes
abbrev pub key_bytes : List ℕ → List ℕ
key_bytes key = to_be_bytes w64 (length key) ++ key

-- the keys of pairs, in their order
abbrev pub spelled_keys : List KeyPair → List ℕ
spelled_keys pairs = flat_map (λ pair. key_bytes pair.key) pairs
