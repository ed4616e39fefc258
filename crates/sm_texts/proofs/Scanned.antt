-- A scan that finds as many pairs as there are finds all.
use Rattle.std.proofs.Common.{◌≡◌, ℕ, suc, ◌≤◌, Bool, true, false, cond, List, [], ◌∷◌, length, map, take, refl, sym}
use Rattle.std.proofs.Common.{ap, ◌∙◌, arith}
use Rattle.std.specs.List.{filter}
use Rattle.std.proofs.lemmas.List.{length-map, length-take, take_all}

few_step : {X : Type 0} (b : Bool) (x : X) (fs : List X) (n : ℕ) → length fs ≤ n
    → length (cond b (x ∷ fs) fs) ≤ suc n
few_step true x fs n few = omega (arith, few)
few_step false x fs n few = omega (arith, few)

few : {X : Type 0} (p : X → Bool) (xs : List X) → length (filter p xs) ≤ length xs
few p [] = omega arith
few p (x ∷ xs) = few_step (p x) x (filter p xs) (length xs) (few p xs)

whole_step : {X : Type 0} (b : Bool) (x : X) (xs fs : List X) → (length xs ≤ length fs → fs ≡ xs)
    → length fs ≤ length xs → suc (length xs) ≤ length (cond b (x ∷ fs) fs) → cond b (x ∷ fs) fs ≡ x ∷ xs
whole_step true x xs fs rest few long = ap (λ l. x ∷ l) (rest (omega (arith, long)))
whole_step false x xs fs rest few long = absurd (omega (arith, long, few))

whole : {X : Type 0} (p : X → Bool) (xs : List X) → length xs ≤ length (filter p xs) → filter p xs ≡ xs
whole p [] long = refl
whole p (x ∷ xs) long = whole_step (p x) x xs (filter p xs) (whole p xs) (few p xs) long

pub all_scanned : {X : Type 0} (p : X → Bool) (xs : List X) (n : ℕ) → length (take n (filter p xs)) ≡ length xs
    → take n (filter p xs) ≡ xs
all_scanned p xs n e =
    let long : length xs ≤ length (filter p xs) = omega (arith, e, length-take n (filter p xs)) in
    let all : filter p xs ≡ xs = whole p xs long in
    take_all n (filter p xs) (omega (arith, e, length-take n (filter p xs), ap length all)) ∙ all

-- if a scan gives as many rows as there are pairs, they are all pairs
pub all_rows : {X R : Type 0} (p : X → Bool) (n : ℕ) (row : R → X) (rows : List R) (xs : List X)
    → map row rows ≡ take n (filter p xs) → length rows ≡ length xs → map row rows ≡ xs
all_rows p n row rows xs found long =
    found ∙ all_scanned p xs n (ap length (sym found) ∙ length-map rows row ∙ long)
