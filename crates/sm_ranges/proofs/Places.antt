-- The first place in a list that passes a test.
use Rattle.std.proofs.Common.{◌≡◌, ◌+◌, Bool, cond, List, [], ◌∷◌, map, refl, ap}
use Rattle.std.specs.Prelude.{not, position}
use Rattle.std.specs.List.{position_or_len, zip}
use Rattle.std.proofs.lemmas.List.{length-map}

module _ {X Y : Type 0} (p : Y → Bool) (f : X → Y) where
  position_or_len-map : (xs : List X) → position_or_len p (map f xs) ≡ position_or_len (λ x. p (f x)) xs
  position_or_len-map [] = refl
  position_or_len-map (x ∷ xs) = ap (λ n. cond (not (p (f x))) (1 + n) 0) (position_or_len-map xs)

  pub position-map : (xs : List X) → position p (map f xs) ≡ position (λ x. p (f x)) xs
  position-map xs = rw (position_or_len-map xs, length-map xs f)

pub zip-map : {X Y : Type 0} (f : X → Y) (xs ys : List X)
    → zip (map f xs) (map f ys) ≡ map (λ pair. (f pair.0, f pair.1)) (zip xs ys)
zip-map f [] ys = refl
zip-map f (x ∷ xs) [] = refl
zip-map f (x ∷ xs) (y ∷ ys) = ap (λ pairs. (f x, f y) ∷ pairs) (zip-map f xs ys)
