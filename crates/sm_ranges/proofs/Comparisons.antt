-- The order of keys.
use Rattle.std.proofs.Common.{◌≡◌, ℕ, true, false, List, [], ◌∷◌, refl, ap, ◌∙◌}
use Rattle.std.specs.Prelude.{not}
use Rattle.std.specs.declared.cmp.Ordering.{Ordering}
use Rattle.std.specs.declared.cmp.Ordering.TheVariants.{Less, Equal, Greater}
use Rattle.std.specs.Ordering.{nat_cmp, is_lt, is_le, ordering_reverse}
use Rattle.std.specs.Cmp.Lexicographic.{slice_cmp}
use Rattle.std.proofs.lemmas.Cmp.{nat_list_cmp_total}
use Rattle.sm_ranges.specs.KeyOrder.{is_below, is_at_most}

is_lt-reverse : (o : Ordering) → is_lt (ordering_reverse o) ≡ not (is_le o)
is_lt-reverse Less = refl
is_lt-reverse Equal = refl
is_lt-reverse Greater = refl

le_from_lt : (o : Ordering) → is_lt o ≡ true → is_le o ≡ true
le_from_lt Less h = refl
le_from_lt Equal h = cc
le_from_lt Greater h = cc

-- a key is below another if the other isn't at most the key
pub is_below-flip : (first second : List ℕ) → is_below second first ≡ not (is_at_most first second)
is_below-flip first second =
    ap is_lt (nat_list_cmp_total.antisymm second first) ∙ is_lt-reverse (slice_cmp nat_cmp first second)

pub below_back : (first second : List ℕ) → is_below first second ≡ true → is_below second first ≡ false
below_back first second h = is_below-flip first second ∙ ap not (le_from_lt (slice_cmp nat_cmp first second) h)

pub at_most_empty : (key : List ℕ) → is_at_most [] key ≡ true
at_most_empty [] = refl
at_most_empty (byte ∷ bytes) = refl
