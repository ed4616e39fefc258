-- The numbers of a client's requests grow, so none is made twice, and a number that is passed over isn't made later.
use Rattle.std.proofs.Common.{◌≡◌, ℕ, ◌+◌, ◌<◌, Bool, true, false, List, [], ◌∷◌, ◌++◌, refl, sym, subst, arith}
use Rattle.std.proofs.Common.{◌∙◌, ap, inl, inr, ⊎_elim}
use Rattle.std.proofs.Common.{append_assoc, append-nil}
use Rattle.std.specs.Prelude.{Option, Some, ◌==◌, ◌&&◌, if◌then◌else◌, max}
use Rattle.std.proofs.lemmas.Bool.{eqb-true}
use Rattle.sm_store.specs.declared.item.Item.{Item}
use Rattle.sm_store.specs.Clients.{Automaton, IsOver, last_of, floor_of, AreNext, is_from, times, reply_in}

last_step : (b : Bool) (n x y z : ℕ) → z ≡ max x y → (if b then max n z else z) ≡ max (if b then max n x else x) y
last_step true n x y z is = omega arith
last_step false n x y z is = is

unused_step : (b e : Bool) (m number x t : ℕ) → (if b then max m x else x) < number → (e ≡ true → m ≡ number)
    → (x < number → t ≡ 0) → (if b && e then 1 else 0) + t ≡ 0
unused_step true true m number x t below is rest = let e = is refl in absurd (omega arith)
unused_step true false m number x t below is rest = let r : t ≡ 0 = rest (omega arith) in omega arith
unused_step false e m number x t below is rest = let r : t ≡ 0 = rest below in omega arith

module _ {Q : Type 0} where
  pub last-append : (client : ℕ) (xs ys : List (Item Q)) → last_of client (xs ++ ys)
      ≡ max (last_of client xs) (last_of client ys)
  last-append client [] ys = omega arith
  last-append client (item ∷ items) ys = last_step (item.client == client) item.number (last_of client items)
      (last_of client ys) (last_of client (items ++ ys)) (last-append client items ys)

  pub times-append : (client number : ℕ) (xs ys : List (Item Q)) → times client number (xs ++ ys)
      ≡ times client number xs + times client number ys
  times-append client number [] ys = omega arith
  times-append client number (item ∷ items) ys = let rest = times-append client number items ys in omega arith

  pub floor-append : (xs ys : List (Item Q)) → floor_of (xs ++ ys) ≡ max (floor_of xs) (floor_of ys)
  floor-append [] ys = omega arith
  floor-append (item ∷ items) ys = let rest = floor-append items ys in omega arith

  -- a number that is over stays over
  pub over_grows : (client number : ℕ) (items more all : List (Item Q)) → all ≡ items ++ more
      → IsOver client number items → IsOver client number all
  over_grows client number items more all is over =
      ⊎_elim
      (λ (later : number < last_of client items).
      let both : last_of client all ≡ max (last_of client items) (last_of client more) =
      ap (last_of client) is ∙ last-append client items more in
      let now : number < last_of client all = omega arith in
      inl now)
      (λ (gone : client < floor_of items).
      let both : floor_of all ≡ max (floor_of items) (floor_of more) = ap floor_of is ∙ floor-append items more in
      let now : client < floor_of all = omega arith in
      inr now)
      over

  -- the requests come next one part after the other
  pub next-append : (before xs ys : List (Item Q)) → AreNext before xs → AreNext (before ++ xs) ys
      → AreNext before (xs ++ ys)
  next-append before [] ys first second = subst (λ (list : List (Item Q)). AreNext list ys) (append-nil before) second
  next-append before (item ∷ items) ys first second = (
    first.0,
    next-append (before ++ item ∷ []) items ys first.1
        (subst (λ (list : List (Item Q)). AreNext list ys) (sym (append_assoc before (item ∷ []) items)) second),
  )

  pub next_front : (before xs ys : List (Item Q)) → AreNext before (xs ++ ys) → AreNext before xs
  next_front before [] ys next = tt
  next_front before (item ∷ items) ys next = (next.0, next_front (before ++ item ∷ []) items ys next.1)

  -- a number above a client's last is not made
  pub unused : (client number : ℕ) (items : List (Item Q)) → last_of client items < number → times client number items
      ≡ 0
  unused client number [] below = refl
  unused client number (item ∷ items) below = unused_step (item.client == client)
      (item.number == number) item.number number (last_of client items) (times client number items) below
      (eqb-true item.number number) (unused client number items)

module _ {Q R S : Type 0} (service : Automaton S Q R) where
  reply_step : (b : Bool) (found : R) (rest longer : Option R) (r : R) → (rest ≡ Some r → longer ≡ Some r)
      → (if b then Some found else rest) ≡ Some r → (if b then Some found else longer) ≡ Some r
  reply_step true found rest longer r goes is = is
  reply_step false found rest longer r goes is = goes is

  -- a reply never changes
  pub reply-append : (state : S) (xs ys : List (Item Q)) (client number : ℕ) (r : R)
      → reply_in service state xs client number ≡ Some r → reply_in service state (xs ++ ys) client number
      ≡ Some r
  reply-append state [] ys client number r is = absurd cc
  reply-append state (item ∷ items) ys client number r is =
      reply_step (is_from client number item) (service.reply state item.request)
      (reply_in service (service.after state item.request) items client number)
      (reply_in service (service.after state item.request) (items ++ ys) client number) r
      (reply-append (service.after state item.request) items ys client number r) is
