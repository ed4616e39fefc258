-- Ranges of keys between bounds.
use Rattle.std.specs.Prelude.{◌≡◌, ℕ, ◌+◌, ◌≤◌, IsTrue, List, [], length, All, slice_get, Some, IfSome, IsSomeAnd}
use Rattle.std.specs.List.{AllAdjacentBelow, before_last}
use Rattle.sm_ranges.specs.declared.limits.TheConstants.{MAX_KEY, MAX_SHARDS}
use Rattle.sm_ranges.specs.KeyOrder.{is_below, is_at_most}

-- bound k is at most the key, and if there is a bound k + 1, the key is below it
abbrev pub Covers : List (List ℕ) → ℕ → List ℕ → Type 0
Covers bounds k key =
    IsSomeAnd (slice_get bounds k) (λ low. IsTrue (is_at_most low key))
    × IfSome (slice_get bounds (k + 1)) (λ high. IsTrue (is_below key high))

-- the number of the last bound that is at most the key, counted from 0
abbrev pub shard_of : List (List ℕ) → List ℕ → ℕ
shard_of bounds key = length (before_last (λ bound. is_at_most bound key) bounds)

-- bounds that cut the key space into 1 to 4,096 ranges: the first is empty, each is above the one before it, and none
-- has more than 255 bytes
pub record IsLayout (bounds : List (List ℕ)) : Type 0 where
  pub some : 1 ≤ length bounds
  pub few : length bounds ≤ MAX_SHARDS
  pub first_empty : slice_get bounds 0 ≡ Some []
  pub rising : AllAdjacentBelow (λ low high. IsTrue (is_below low high)) bounds (length bounds)
  pub short : All (λ bound. length bound ≤ MAX_KEY) bounds
