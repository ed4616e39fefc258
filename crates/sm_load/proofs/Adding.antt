-- The sums of the changes of a list's items.
use Rattle.std.proofs.Common.{◌≡◌, ◌+◌, ◌*◌, ◌<◌, ◌^◌, ℕ, zero, suc, List, [], ◌∷◌, ◌++◌, length, refl, sym, ap, subst}
use Rattle.std.proofs.Common.{arith}
use Rattle.std.specs.Prelude.{slice_index_or}
use Rattle.std.specs.List.{IsFirstAndRest}
use Rattle.std.proofs.Math.Nat.{add-mul, suc-mul}
use Rattle.std.proofs.lemmas.Nat.{mul-lt}
use Rattle.sm_load.specs.Loads.{AddUp}

module _ {C : Type 0} (changed : C → ℕ → ℕ → C → Type 0) where
  -- as many items as before
  pub as_many : (before : List C) (acked refused : ℕ) (after : List C) → AddUp changed before acked refused after
      → length after ≡ length before
  as_many [] acked refused [] sum = refl
  as_many [] acked refused (a ∷ rest) sum = absurd sum
  as_many (b ∷ bs) acked refused [] sum = absurd sum
  as_many (b ∷ bs) acked refused (a ∷ rest) (mine, others, mine_not, others_not, sum, sum_not, did, tail) =
      ap suc (as_many bs others others_not rest tail)

  -- a property of each change is a property at each place
  pub at_each : (since : C → C → Type 0) → ((b : C) (n m : ℕ) (a : C) → changed b n m a → since b a)
      → (before : List C) (acked refused : ℕ) (after : List C)
      → AddUp changed before acked refused after → (at : ℕ) (d : C) → at < length before
      → since (slice_index_or before at d) (slice_index_or after at d)
  at_each since each [] acked refused after sum at d within = absurd (omega arith)
  at_each since each (b ∷ bs) acked refused [] sum at d within = absurd sum
  at_each since each (b ∷ bs) acked refused (a ∷ rest) (
    mine,
    others,
    mine_not,
    others_not,
    sum,
    sum_not,
    did,
    tail,
  ) zero d within = each b mine mine_not a did
  at_each since each (b ∷ bs) acked refused (a ∷ rest) (
    mine,
    others,
    mine_not,
    others_not,
    sum,
    sum_not,
    did,
    tail,
  ) (suc at) d within =
      at_each since each bs others others_not rest tail at d (omega (arith, within))

  -- a list of one item
  pub one_of : (all : List C) (first : C) (rest : List C) (acked refused : ℕ) (after : C)
      → IsFirstAndRest all first rest → length all < 2
      → changed first acked refused after → AddUp changed all acked refused (after ∷ rest)
  one_of all first [] acked refused after is short did =
      subst (λ (list : List C). AddUp changed list acked refused (after ∷ [])) (sym is.0) (
        acked,
        0,
        refused,
        0,
        omega arith,
        omega arith,
        did,
        (refl, refl),
      )
  one_of all first (x ∷ xs) acked refused after is short did = absurd (omega (arith, is.1, short))

  -- if each item counted the same number, all counted the product
  pub sums_up : (n : ℕ) → ((b : C) (m r : ℕ) (a : C) → changed b m r a → m + r ≡ n)
      → (before : List C) (acked refused : ℕ) (after : List C)
      → AddUp changed before acked refused after → acked + refused ≡ length before * n
  sums_up n total [] acked refused [] sum = omega (arith, sum.0, sum.1)
  sums_up n total [] acked refused (a ∷ rest) sum = absurd sum
  sums_up n total (b ∷ bs) acked refused [] sum = absurd sum
  sums_up n total (b ∷ bs) acked refused (a ∷ rest) (mine, others, mine_not, others_not, sum, sum_not, did, tail) =
      let ih : others + others_not ≡ length bs * n = sums_up n total bs others others_not rest tail in
      let one : mine + mine_not ≡ n = total b mine mine_not a did in
      let times : length (b ∷ bs) * n ≡ length bs * n + n = suc-mul (length bs) n in
      omega (arith, ih, one, times, sum, sum_not)

  -- the counts of two lists fit
  pub sums_fit : (n : ℕ) → ((b : C) (m r : ℕ) (a : C) → changed b m r a → m + r ≡ n)
      → (before : List C) (acked refused : ℕ) (after before' : List C) (acked' refused' : ℕ) (after' : List C)
      → n < 2 ^ 32 → length before + length before' < 2 ^ 32 → AddUp changed before acked refused after
      → AddUp changed before' acked' refused' after'
      → (acked + acked' < 2 ^ 64) × (refused + refused' < 2 ^ 64)
  sums_fit n total before acked refused after before' acked' refused' after' few short one two =
      let a = sums_up n total before acked refused after one in
      let b = sums_up n total before' acked' refused' after' two in
      let all : (length before + length before') * n ≡ length before * n + length before' * n =
      add-mul (length before) (length before') n in
      let fits : (length before + length before') * n < 2 ^ 64 =
      mul-lt (length before + length before') n (2 ^ 32) (2 ^ 32) short few in
      (omega (arith, a, b, all, fits), omega (arith, a, b, all, fits))

  -- one list behind another
  both_up :
      (before : List C) (acked refused : ℕ) (after : List C) (before' : List C) (acked' refused' : ℕ) (after' : List C)
      → AddUp changed before acked refused after → AddUp changed before' acked' refused' after'
      → AddUp changed (before ++ before') (acked + acked') (refused + refused') (after ++ after')
  both_up [] acked refused [] before' acked' refused' after' sum more =
      let a : acked' ≡ acked + acked' = omega (arith, sum.0) in
      let r : refused' ≡ refused + refused' = omega (arith, sum.1) in
      subst (λ (n : ℕ). AddUp changed before' n (refused + refused') after') a
      (subst (λ (n : ℕ). AddUp changed before' acked' n after') r more)
  both_up [] acked refused (a ∷ rest) before' acked' refused' after' sum more = absurd sum
  both_up (b ∷ bs) acked refused [] before' acked' refused' after' sum more = absurd sum
  both_up (b ∷ bs) acked refused (a ∷ rest) before' acked' refused' after' (
    mine,
    others,
    mine_not,
    others_not,
    sum,
    sum_not,
    did,
    tail,
  ) more = (
    mine,
    others + acked',
    mine_not,
    others_not + refused',
    omega (arith, sum),
    omega (arith, sum_not),
    did,
    both_up bs others others_not rest before' acked' refused' after' tail more,
  )

  -- the same of a list that is cut in two
  pub both_of : (all before : List C) (acked refused : ℕ) (after before' : List C) (acked' refused' : ℕ)
      (after' : List C) (a r : ℕ)
      → all ≡ before ++ before' → a ≡ acked + acked' → r ≡ refused + refused'
      → AddUp changed before acked refused after → AddUp changed before' acked' refused' after'
      → AddUp changed all a r (after ++ after')
  both_of all before acked refused after before' acked' refused' after' a r cut is_acked is_refused one two =
      let both = both_up before acked refused after before' acked' refused' after' one two in
      subst (λ (list : List C). AddUp changed list a r (after ++ after')) (sym cut)
      (subst (λ (n : ℕ). AddUp changed (before ++ before') n r (after ++ after')) (sym is_acked)
      (subst (λ (n : ℕ). AddUp changed (before ++ before') (acked + acked') n (after ++ after')) (sym is_refused) both))

-- a change of one kind is one of another kind
pub weaker : {C : Type 0} (changed other : C → ℕ → ℕ → C → Type 0)
    → ((b : C) (n m : ℕ) (a : C) → changed b n m a → other b n m a)
    → (before : List C) (acked refused : ℕ) (after : List C)
    → AddUp changed before acked refused after → AddUp other before acked refused after
weaker changed other each [] acked refused [] sum = sum
weaker changed other each [] acked refused (a ∷ rest) sum = absurd sum
weaker changed other each (b ∷ bs) acked refused [] sum = absurd sum
weaker changed other each (b ∷ bs) acked refused (a ∷ rest) (
  mine,
  others,
  mine_not,
  others_not,
  sum,
  sum_not,
  did,
  tail,
) = (
  mine,
  others,
  mine_not,
  others_not,
  sum,
  sum_not,
  each b mine mine_not a did,
  weaker changed other each bs others others_not rest tail,
)
