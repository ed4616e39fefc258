-- Lists in the order of keys. `key_of` gives the key of each element.
use Rattle.std.specs.Prelude.{◌≡◌, ℕ, ◌<◌, ◌≤◌, Bool, List, ◌∷◌, ◌++◌, AllPairs, filter, length}
use Rattle.std.specs.List.{HoldsAt}
use Rattle.std.specs.List.Sorted.{IsPartitionPoint}
use Rattle.std.specs.Ordering.{is_lt, is_gt, is_eq}
use Rattle.std.specs.declared.cmp.Ordering.TheVariants.{Less, Equal, Greater}
use Rattle.sm_ranges.specs.KeyOrder.{key_cmp}

-- the elements are in the order of their keys, and no two have the same key
abbrev pub IsInKeyOrder : {X : Type 0} → (X → List ℕ) → List X → Type 0
IsInKeyOrder key_of xs = AllPairs (λ x later. key_cmp (key_of x) (key_of later) ≡ Less) xs

-- the element's key is below, the same as, or above this one
abbrev pub comes_before : {X : Type 0} → (X → List ℕ) → List ℕ → X → Bool
comes_before key_of key x = is_lt (key_cmp (key_of x) key)

-- the element's key is this one
abbrev pub has_key : {X : Type 0} → (X → List ℕ) → List ℕ → X → Bool
has_key key_of key x = is_eq (key_cmp (key_of x) key)

-- the element's key is above this one
abbrev pub comes_after : {X : Type 0} → (X → List ℕ) → List ℕ → X → Bool
comes_after key_of key x = is_gt (key_cmp (key_of x) key)

-- the list without the element of this key
abbrev pub without_key : {X : Type 0} → (X → List ℕ) → List X → List ℕ → List X
without_key key_of xs key = filter (comes_before key_of key) xs ++ filter (comes_after key_of key) xs

-- the list with this element at this key
abbrev pub with_key : {X : Type 0} → (X → List ℕ) → List X → List ℕ → X → List X
with_key key_of xs key x = filter (comes_before key_of key) xs ++ x ∷ filter (comes_after key_of key) xs

-- the element with this key is at this place
pub record IsKeyPlace {X : Type 0} (key_of : X → List ℕ) (xs : List X) (key : List ℕ) (at : ℕ) : Type 0 where
  pub within : at < length xs
  pub same : HoldsAt (λ x. key_cmp (key_of x) key ≡ Equal) xs at

-- no element has this key, and a new element with this key would go to this place
pub record IsKeyGap {X : Type 0} (key_of : X → List ℕ) (xs : List X) (key : List ℕ) (at : ℕ) : Type 0 where
  pub within : at ≤ length xs
  pub apart : IsPartitionPoint (λ x. key_cmp (key_of x) key ≡ Less) (λ x. key_cmp (key_of x) key ≡ Greater) xs at
