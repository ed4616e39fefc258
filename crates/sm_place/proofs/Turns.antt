-- Each turn of a plan keeps room.
use Rattle.std.proofs.Common.{ℕ, ◌≡◌, ◌≢◌, inl, inr, cond, List, [], ◌∷◌, All, Option, Some, None, Result, Ok, Err}
use Rattle.std.proofs.Common.{refl}
use Rattle.std.specs.Prelude.{is_ok}
use Rattle.std.proofs.lemmas.List.Elements.{All-nil, All-cons}
use Rattle.sm_place.specs.declared.place_fault.PlaceFault.{PlaceFault}
use Rattle.sm_place.specs.Books.{BooksView}
use Rattle.sm_place.specs.Room.{fit}
use Rattle.sm_place.specs.Plans.{books_after, first_fit, joined, plan, turn, KeepsRoom}

-- if there is no first fit, the shard fits none of the servers
pub first_fit-none : (books : BooksView) (k : ℕ) (servers : List ℕ) → first_fit books k servers ≡ None
    → All (λ a. fit books k a ≢ Ok tt) servers
first_fit-none books k [] e = All-nil (λ a. fit books k a ≢ Ok tt)
first_fit-none books k (a ∷ servers) e = step (fit books k a) refl (first_fit-none books k servers) e
  where
    step : (r : Result (Unit {0}) PlaceFault) → fit books k a ≡ r
        → (first_fit books k servers ≡ None → All (λ b. fit books k b ≢ Ok tt) servers)
        → ◌≡◌ {A = Option ℕ} (cond (is_ok r) (Some a) (first_fit books k servers)) None
        → All (λ b. fit books k b ≢ Ok tt) (a ∷ servers)
    step (Ok x) same again e' = absurd (cc)
    step (Err fault) same again e' = All-cons (λ b. fit books k b ≢ Ok tt) a servers (λ ok. absurd (cc)) (again e')

-- the first fit fits
pub first_fit-some : (books : BooksView) (k a : ℕ) (servers : List ℕ) → first_fit books k servers ≡ Some a
    → fit books k a ≡ Ok tt
first_fit-some books k a [] e = absurd (cc)
first_fit-some books k a (b ∷ servers) e = step (fit books k b) refl (first_fit-some books k a servers) e
  where
    step : (r : Result (Unit {0}) PlaceFault) → fit books k b ≡ r
        → (first_fit books k servers ≡ Some a → fit books k a ≡ Ok tt)
        → ◌≡◌ {A = Option ℕ} (cond (is_ok r) (Some b) (first_fit books k servers)) (Some a)
        → fit books k a ≡ Ok tt
    step (Ok x) same again e' = let here : b ≡ a = cc in rw here at same
    step (Err fault) same again e' = again e'

-- a plan keeps room
pub KeepsRoom-plan : (books : BooksView) (shards servers : List ℕ)
    → KeepsRoom books shards servers (plan books shards servers).moves (plan books shards servers).left
KeepsRoom-plan books [] servers = (refl, refl)
KeepsRoom-plan books (k ∷ shards) servers =
    step (first_fit books k servers) refl (λ to. KeepsRoom-plan (books_after books k to) shards servers)
  where
    step : (to : Option ℕ) → first_fit books k servers ≡ to
        → ((to : Option ℕ) → KeepsRoom (books_after books k to) shards servers
        (plan (books_after books k to) shards servers).moves (plan (books_after books k to) shards servers).left)
        → KeepsRoom books (k ∷ shards) servers
        (joined (turn k to) (plan (books_after books k to) shards servers)).moves
        (joined (turn k to) (plan (books_after books k to) shards servers)).left
    step None e again = inr ((plan books shards servers).left, refl, first_fit-none books k servers e, again None)
    step (Some a) e again =
        inl (
          a,
          (plan (books_after books k (Some a)) shards servers).moves,
          refl,
          first_fit-some books k a servers e,
          again (Some a),
        )
