-- A list that is made of rows, one after another.
use Rattle.std.proofs.Common.{◌≡◌, ◌<◌, ◌+◌, ◌∷◌, ◌++◌, [], ◌∙◌, ℕ, List, ap, get_or, length, map, sym, take}
use Rattle.std.proofs.lemmas.List.{map-append, take_more}

-- if one more was made of the next row, all were made of one row more
pub made_of_one_more : {A B : Type 0} (f : A → ℕ) (h : B → ℕ) (made grown : List A) (one : A) (rows : List B) (row : B)
    (i : ℕ) → grown ≡ made ++ one ∷ [] → i < length rows → row ≡ get_or rows i row → f one ≡ h row
    → map f made ≡ map h (take i rows) → map f grown ≡ map h (take (i + 1) rows)
made_of_one_more {A} {B} f h made grown one rows row i pushed within is same so_far =
    let front : take (i + 1) rows ≡ take i rows ++ row ∷ [] =
    take_more rows i row within ∙ ap (λ (x : B). take i rows ++ x ∷ []) (sym is) in
    ap (map f) pushed
    ∙ (map-append f made (one ∷ []) ∙ ((λ k. so_far k ++ same k ∷ [])
    ∙ (sym (map-append h (take i rows) (row ∷ [])) ∙ sym (ap (map h) front))))
