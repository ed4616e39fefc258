-- Lists that are cut in two at a place: the results of filters and of `find`, and of a write there.
use Rattle.std.proofs.Common.{◌≡◌, ℕ, zero, suc, ◌<◌, Bool, true, false, List, [], ◌∷◌, ◌++◌, length, get_or, set, take}
use Rattle.std.proofs.Common.{drop, Some, None, refl, ap, arith}
use Rattle.std.specs.List.{All, AllPairs, AllWithin, filter, find}
use Rattle.std.proofs.lemmas.List.Elements.{All-append}
use Rattle.std.proofs.lemmas.List.Kept.{AllPairs-cons}

module _ {X : Type 0} (p : X → Bool) where
  abbrev pub Passes : List X → ℕ → ℕ → Type 0
  Passes xs low high = AllWithin (λ x. p x ≡ true) xs low high

  abbrev pub Fails : List X → ℕ → ℕ → Type 0
  Fails xs low high = AllWithin (λ x. p x ≡ false) xs low high

  -- only the elements below the place pass
  pub filter-take : (xs : List X) (at : ℕ) → Passes xs 0 at → Fails xs at (length xs) → filter p xs ≡ take at xs
  filter-take [] zero pass fail = refl
  filter-take [] (suc at) pass fail = refl
  filter-take (x ∷ xs) zero pass fail =
      let here : p x ≡ false = fail zero x (omega arith) (omega arith) in
      rw here (filter-take xs zero (λ k d low high. absurd (omega arith))
      (λ k d low high. fail (suc k) d (omega arith) (omega arith)))
  filter-take (x ∷ xs) (suc at) pass fail =
      let here : p x ≡ true = pass zero x (omega arith) (omega arith) in
      rw here (ap (λ l. x ∷ l) (filter-take xs at (λ k d low high. pass (suc k) d (omega arith) (omega arith))
      (λ k d low high. fail (suc k) d (omega arith) (omega arith))))

  -- only the elements from the place on pass
  pub filter-drop : (xs : List X) (at : ℕ) → Fails xs 0 at → Passes xs at (length xs) → filter p xs ≡ drop at xs
  filter-drop [] zero fail pass = refl
  filter-drop [] (suc at) fail pass = refl
  filter-drop (x ∷ xs) zero fail pass =
      let here : p x ≡ true = pass zero x (omega arith) (omega arith) in
      rw here (ap (λ l. x ∷ l) (filter-drop xs zero (λ k d low high. absurd (omega arith))
      (λ k d low high. pass (suc k) d (omega arith) (omega arith))))
  filter-drop (x ∷ xs) (suc at) fail pass =
      let here : p x ≡ false = fail zero x (omega arith) (omega arith) in
      rw here (filter-drop xs at (λ k d low high. fail (suc k) d (omega arith) (omega arith))
      (λ k d low high. pass (suc k) d (omega arith) (omega arith)))

  -- the first element that passes stands at the place
  pub find-at : (xs : List X) (at : ℕ) (d : X) → at < length xs → Fails xs 0 at → p (get_or xs at d) ≡ true
      → find p xs ≡ Some (get_or xs at d)
  find-at [] at d within fail pass = absurd (omega arith)
  find-at (x ∷ xs) zero d within fail pass =
      let here : p x ≡ true = pass in
      rw here refl
  find-at (x ∷ xs) (suc at) d within fail pass =
      let here : p x ≡ false = fail zero x (omega arith) (omega arith) in
      rw here (find-at xs at d (omega arith) (λ k e low high. fail (suc k) e (omega arith) (omega arith)) pass)

  -- no element passes
  pub find-none : (xs : List X) → Fails xs 0 (length xs) → find p xs ≡ None
  find-none [] fail = refl
  find-none (x ∷ xs) fail =
      let here : p x ≡ false = fail zero x (omega arith) (omega arith) in
      rw here (find-none xs (λ k d low high. fail (suc k) d (omega arith) (omega arith)))

module _ {X : Type 0} where
  pub set-cut : (xs : List X) (at : ℕ) (x : X) → at < length xs → set xs at x ≡ take at xs ++ x ∷ drop (suc at) xs
  set-cut [] at x within = absurd (omega arith)
  set-cut (y ∷ ys) zero x within = refl
  set-cut (y ∷ ys) (suc at) x within = ap (λ l. y ∷ l) (set-cut ys at x (omega arith))

  -- all pairs within each part, and all pairs across the parts
  pub AllPairs-append : (R : X → X → Type 0) (xs ys : List X) → AllPairs R xs → AllPairs R ys
      → All (λ x. All (R x) ys) xs → AllPairs R (xs ++ ys)
  AllPairs-append R [] ys left right across = right
  AllPairs-append R (x ∷ xs) ys left right across =
      let inner : AllPairs R xs = λ i j d below within. left (suc i) (suc j) d (omega arith) (omega arith) in
      let head : All (R x) xs = λ k d within. left zero (suc k) d (omega arith) (omega arith) in
      let over : All (R x) ys = across zero x (omega arith) in
      let rest : All (λ y. All (R y) ys) xs = λ k d within. across (suc k) d (omega arith) in
      AllPairs-cons R x (xs ++ ys) (All-append (R x) xs ys head over) (AllPairs-append R xs ys inner right rest)
