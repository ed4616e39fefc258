-- The views of a table after one of them is set, and after one more.
use Rattle.std.proofs.Common.{◌≡◌, ◌≢◌, ℕ, zero, suc, ◌<◌, ◌≤◌, List, [], ◌∷◌, ◌++◌, length, refl, sym, ap, subst}
use Rattle.std.proofs.Common.{arith, inl, inr, ◌⊎◌, ⊎_elim}
use Rattle.std.specs.Prelude.{Some, None, slice_set}
use mathlib.Core.Option.{some, some-injective, some-ne-none}
use lib.ListN.{get_elem?}
use Rattle.atomic_table.proofs.Lists.{at_set}
use Rattle.sm_rule.specs.declared.view.View.{View}

pub none_some : {X : Type 0} (x : X) → None ≡ Some x → ⊥
none_some x is = absurd (cc)

-- the views after one of them is set
pub views_set : {Q : Type 0} (P : ℕ → View Q → Type 0) (views : List (View Q)) (id : ℕ) (mine : View Q)
    → ((n : ℕ) (view : View Q) → n ≢ id → get_elem? views n ≡ some view → P n view) → P id mine
    → (n : ℕ) (view : View Q) → get_elem? (slice_set views id mine) n ≡ some view → P n view
views_set P views id mine others here n view at =
    ⊎_elim
    (λ (same : (n ≡ id) × (mine ≡ view)). subst (λ (pair : ℕ × View _). P pair.0 pair.1)
    (λ i. (sym same.0 i, same.1 i)) here)
    (λ (other : (n ≢ id) × (get_elem? views n ≡ some view)). others n view other.0 other.1)
    (at_set views id n mine view at)

-- a seat isn't past the end
pub at_end : {Q : Type 0} (n id : ℕ) (views : List (View Q)) (view : View Q) → get_elem? views id ≡ some view
    → length views ≤ n → n ≡ id → ⊥
at_end n id [] view at past is = some-ne-none view (sym at)
at_end zero id (one ∷ views) view at past is = omega arith
at_end (suc n) zero (one ∷ views) view at past is = absurd (cc)
at_end (suc n) (suc id) (one ∷ views) view at past is = at_end n id views view at (omega arith) (omega arith)

pub below_end : {Q : Type 0} (views : List (View Q)) (n : ℕ) (view : View Q) → get_elem? views n ≡ some view
    → n < length views
below_end [] n view at = absurd (some-ne-none view (sym at))
below_end (one ∷ views) zero view at = omega arith
below_end (one ∷ views) (suc n) view at = let below = below_end views n view at in omega arith

pub at_last : {A : Type 0} (views : List A) (mine view : A) (n : ℕ) → get_elem? (views ++ mine ∷ []) n ≡ some view
    → (get_elem? views n ≡ some view) ⊎ ((n ≡ length views) × (mine ≡ view))
at_last [] mine view zero at = inr (refl, some-injective mine view at)
at_last [] mine view (suc n) at = absurd (some-ne-none view (sym at))
at_last (one ∷ views) mine view zero at = inl at
at_last (one ∷ views) mine view (suc n) at = ⊎_elim inl
    (λ (last : (n ≡ length views) × (mine ≡ view)). inr (ap suc last.0, last.1)) (at_last views mine view n at)

-- the views and one more
pub views_pushed : {Q : Type 0} (P : ℕ → View Q → Type 0) (views : List (View Q)) (mine : View Q)
    → ((n : ℕ) (view : View Q) → get_elem? views n ≡ some view → P n view) → P (length views) mine
    → (n : ℕ) (view : View Q) → get_elem? (views ++ mine ∷ []) n ≡ some view → P n view
views_pushed P views mine others here n view at =
    ⊎_elim
    (λ (before : get_elem? views n ≡ some view). others n view before)
    (λ (last : (n ≡ length views) × (mine ≡ view)). subst (λ (pair : ℕ × View _). P pair.0 pair.1)
    (λ i. (sym last.0 i, last.1 i)) here)
    (at_last views mine view n at)
