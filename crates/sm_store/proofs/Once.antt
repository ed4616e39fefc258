-- A client's number is made at most once, and a number that a greater one has overtaken isn't made later.
use Rattle.std.proofs.Common.{◌≡◌, ℕ, ◌+◌, ◌<◌, ◌≤◌, Bool, true, false, List, [], ◌∷◌, ◌++◌, refl, sym, ap, subst}
use Rattle.std.proofs.Common.{◌∙◌, arith, ⊎_elim, append_assoc, append-nil}
use Rattle.std.specs.Prelude.{◌==◌, ◌&&◌, if◌then◌else◌}
use Rattle.std.proofs.lemmas.Bool.{and_parts, eqb-true, cases_Bool}
use Rattle.sm_store.specs.declared.item.Item.{Item}
use Rattle.sm_store.specs.Clients.{IsOver, last_of, floor_of, AreNext, is_from, times}
use Rattle.sm_store.specs.Store.{Transaction, made}
use Rattle.sm_store.specs.Deeds.{AreRight, Charter}
use Rattle.sm_store.specs.lemmas.Growth.{made_grows, made_next, next_split}
use Rattle.sm_store.specs.lemmas.Numbers.{floor-append, last-append, times-append, unused}

passed_step : (b e : Bool) (m last number t : ℕ) → (b ≡ true → last < m) → number ≤ last → (e ≡ true → m ≡ number) → t
    ≡ 0 → (if b && e then 1 else 0) + t ≡ 0
passed_step true true m last number t next below is rest = let e = is refl in let n = next refl in absurd (omega arith)
passed_step true false m last number t next below is rest = omega arith
passed_step false e m last number t next below is rest = omega arith

forgotten_step : (b e : Bool) (t : ℕ) → (b ≡ true → ⊥) → t ≡ 0 → (if b && e then 1 else 0) + t ≡ 0
forgotten_step true e t none rest = absurd (none refl)
forgotten_step false e t none rest = omega arith

module _ {Q : Type 0} where
  -- a number that is passed over is not made later
  pub passed : (client number : ℕ) (before items : List (Item Q)) → AreNext before items
      → number ≤ last_of client before → times client number items ≡ 0
  passed client number before [] next below = refl
  passed client number before (item ∷ items) next below =
      let more : last_of client before ≤ last_of client (before ++ item ∷ []) =
      omega (arith, last-append client before (item ∷ [])) in
      passed_step (item.client == client) (item.number == number) item.number (last_of client before) number
      (times client number items)
      (λ same. subst (λ c. last_of c before < item.number) (eqb-true item.client client same) next.0.above) below
      (eqb-true item.number number)
      (passed client number (before ++ item ∷ []) items next.1 (omega arith))

  -- nor is a number of a client that is forgotten
  pub forgotten : (client number : ℕ) (before items : List (Item Q)) → AreNext before items
      → client < floor_of before → times client number items ≡ 0
  forgotten client number before [] next below = refl
  forgotten client number before (item ∷ items) next below =
      let both = floor-append before (item ∷ []) in
      let up : client < floor_of (before ++ item ∷ []) = omega arith in
      forgotten_step (item.client == client) (item.number == number) (times client number items)
      (λ same. let own = eqb-true item.client client same in let known = next.0.known in omega arith)
      (forgotten client number (before ++ item ∷ []) items next.1 up)

  one_step : (client number : ℕ) (before : List (Item Q)) (item : Item Q) → last_of item.client before < item.number
      → times client number before ≤ 1 → times client number (before ++ item ∷ []) ≤ 1
  one_step client number before item next once =
      let both = times-append client number before (item ∷ []) in
      ⊎_elim
      (λ (yes : is_from client number item ≡ true).
      let parts = and_parts (item.client == client) (item.number == number) yes in
      let c = eqb-true item.client client parts.0 in
      let n = eqb-true item.number number parts.1 in
      let none : times client number before ≡ 0 = unused client number before
      (subst (λ k. last_of k before < number) c (subst (λ k. last_of item.client before < k) n next)) in
      let one : times client number (item ∷ []) ≡ 1 = rw yes refl in
      omega arith)
      (λ (no : is_from client number item ≡ false).
      let one : times client number (item ∷ []) ≡ 0 = rw no refl in
      omega arith)
      (cases_Bool (is_from client number item))

  -- no number is made twice
  pub once_from : (client number : ℕ) (before items : List (Item Q)) → AreNext before items
      → times client number before ≤ 1 → times client number (before ++ items) ≤ 1
  once_from client number before [] next once = subst (λ (list : List (Item Q)). times client number list ≤ 1)
      (sym (append-nil before)) once
  once_from client number before (item ∷ items) next once =
      subst (λ (list : List (Item Q)). times client number list ≤ 1) (append_assoc before (item ∷ []) items)
      (once_from client number (before ++ item ∷ []) items next.1
      (one_step client number before item next.0.above once))

  pub once : (client number : ℕ) (items : List (Item Q)) → AreNext [] items → times client number items ≤ 1
  once client number items next = once_from client number [] items next (omega arith)

module _ {Q P : Type 0} (charter : Charter Q P) where
  -- a number that is over is not made from then on
  pub overtaken_grows : (shard client number : ℕ) (more log : List (Transaction Q P)) → AreRight charter (more ++ log)
      → IsOver client number (made shard log)
      → times client number (made shard (more ++ log)) ≡ times client number (made shard log)
  overtaken_grows shard client number more log right over =
      let grown = made_grows shard more log in
      let next : AreNext (made shard log) grown.0 =
      next_split [] (made shard log) grown.0
      (subst (λ (list : List (Item Q)). AreNext [] list) grown.1 (made_next charter shard (more ++ log) right)) in
      let none : times client number grown.0 ≡ 0 =
      ⊎_elim
      (λ (later : number < last_of client (made shard log)).
      passed client number (made shard log) grown.0 next (omega arith))
      (λ (gone : client < floor_of (made shard log)). forgotten client number (made shard log) grown.0 next gone)
      over in
      ap (times client number) grown.1 ∙ times-append client number (made shard log) grown.0 ∙ omega arith
