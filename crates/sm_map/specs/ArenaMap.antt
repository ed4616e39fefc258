-- An ArenaMap in contracts, and the effect of a change of the pair at a place.
use Rattle.std.specs.Prelude.{◌≡◌, ℕ, ◌+◌, List, Some, length, slice_set}
use Rattle.std.specs.List.{remove, insert}
use Rattle.sm_map.specs.KeyMap.{KeyValue, KeyPair, text_of, size_of}

-- the pairs in the order of their keys, how many bytes of the arena are live and how many are dead, and how many pairs
-- each block of the index has
pub record MapValue : Type 0 where
  pub pairs : List KeyPair
  pub bytes : ℕ
  pub dead : ℕ
  pub blocks : List ℕ

-- new is old with this value in the pair at the place, whose old text is dead
pub record IsRewrite (old : MapValue) (at : ℕ) (pair : KeyPair) (value : KeyValue) (new : MapValue) : Type 0 where
  pub pairs : new.pairs ≡ slice_set old.pairs at (record { key = pair.key; value = value })
  pub dead : new.dead ≡ old.dead + length (text_of (Some pair.value))

-- new is old without the pair at the place, all of whose bytes are dead
pub record IsRemoval (old : MapValue) (at : ℕ) (pair : KeyPair) (new : MapValue) : Type 0 where
  pub pairs : new.pairs ≡ remove old.pairs at
  pub dead : new.dead ≡ old.dead + size_of pair

-- new is old with the pair put in at the place
pub record IsAddition (old : MapValue) (at : ℕ) (pair : KeyPair) (new : MapValue) : Type 0 where
  pub pairs : new.pairs ≡ insert old.pairs at pair
  pub dead : new.dead ≡ old.dead
