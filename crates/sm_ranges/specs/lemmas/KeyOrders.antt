-- The order of keys.
use Rattle.std.proofs.Common.{◌≡◌, ℕ, ◌≤◌, true, List, refl, subst, ap, ◌∙◌, arith}
use Rattle.std.specs.FinMap.{nat_cmp-IsAntisymmetric, slice_cmp-IsAntisymmetric}
use Rattle.std.specs.declared.cmp.Ordering.{Ordering}
use Rattle.std.specs.declared.cmp.Ordering.TheVariants.{Less, Equal, Greater}
use Rattle.std.specs.Ordering.{is_lt, is_gt, ordering_index, ordering_reverse}
use Rattle.std.proofs.lemmas.Cmp.{nat_list_cmp_total}
use Rattle.sm_ranges.specs.KeyOrder.{key_cmp}

-- the order from the other side
pub above_from_below : (a b : List ℕ) → key_cmp a b ≡ Less → key_cmp b a ≡ Greater
above_from_below a b below = nat_list_cmp_total.antisymm b a ∙ ap ordering_reverse below

pub below_from_above : (a b : List ℕ) → key_cmp a b ≡ Greater → key_cmp b a ≡ Less
below_from_above a b above = nat_list_cmp_total.antisymm b a ∙ ap ordering_reverse above

pub same_key : (a b : List ℕ) → key_cmp a b ≡ Equal → a ≡ b
same_key = slice_cmp-IsAntisymmetric nat_cmp-IsAntisymmetric

pub less_is : (o : Ordering) → is_lt o ≡ true → o ≡ Less
less_is Less passes = refl
less_is Equal passes = cc
less_is Greater passes = cc

pub greater_is : (o : Ordering) → is_gt o ≡ true → o ≡ Greater
greater_is Less passes = cc
greater_is Equal passes = cc
greater_is Greater passes = refl

-- if one key is below another, its order to a third key is no higher than the other's
pub index_rises : (a b key : List ℕ) → key_cmp a b ≡ Less
    → ordering_index (key_cmp a key) ≤ ordering_index (key_cmp b key)
index_rises a b key below = by (key_cmp b key) refl
  where
    by : (o : Ordering) → key_cmp b key ≡ o → ordering_index (key_cmp a key) ≤ ordering_index o
    by Less is = rw (nat_list_cmp_total.trans a b key below is) (omega arith)
    by Equal is =
        let e : key_cmp a key ≡ Less = subst (λ k. key_cmp a k ≡ Less) (same_key b key is) below in
        rw e (omega arith)
    by Greater is = at_most_two (key_cmp a key)
      where
        at_most_two : (o : Ordering) → ordering_index o ≤ 2
        at_most_two Less = omega arith
        at_most_two Equal = omega arith
        at_most_two Greater = omega arith
