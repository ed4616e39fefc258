-- A search of a mapped list.
use Rattle.std.proofs.Common.{◌≡◌, Bool, true, false, List, [], ◌∷◌, Some, map, refl, cond}
use Rattle.std.specs.List.{find}
use Rattle.std.specs.Option.{option_map}

-- if the first match is found among the images, it is the image of the first match
pub find-map : {X Y : Type 0} (f : X → Y) (p : Y → Bool) (xs : List X)
    → find p (map f xs) ≡ option_map f (find (λ x. p (f x)) xs)
find-map f p [] = refl
find-map f p (x ∷ xs) =
    elim (p (f x))
    as (λ found. cond found (Some (f x)) (find p (map f xs))
    ≡ option_map f (cond found (Some x) (find (λ y. p (f y)) xs)))
    [ true ↦ refl | false ↦ find-map f p xs ]
