-- The place of a server's row.
use Rattle.std.proofs.Common.{◌≡◌, ℕ, Bool, List, Some, None, length, arith}
use Rattle.std.specs.Prelude.{not, position}
use Rattle.std.specs.List.{position_or_len}
use Rattle.std.proofs.lemmas.List.Sums.{prefix_len-le-length}

pub found : {X : Type 0} (p : X → Bool) (xs : List X) (place : ℕ) → position p xs ≡ Some place
    → place ≡ position_or_len p xs
found p xs place is = grind arith

pub missed : {X : Type 0} (p : X → Bool) (xs : List X) → position p xs ≡ None → length xs ≡ position_or_len p xs
missed p xs is = grind (arith, prefix_len-le-length (λ x. not (p x)) xs)
