-- Bounds are a layout if and only if they have no fault, and each key belongs to one of a layout's shards.
use Rattle.std.proofs.Common.{◌≡◌, ℕ, ◌+◌, ◌-◌, ◌<◌, ◌≤◌, Bool, true, false, cond, List, [], ◌∷◌, Option, Some, None}
use Rattle.std.proofs.Common.{length, get_or, drop, refl, sym, ap, ◌∙◌, arith}
use Rattle.std.specs.Prelude.{not, position, nat_lt, All}
use Rattle.std.specs.List.{position_or_len, suffix_len, zip, AllAdjacentBelow}
use Rattle.std.specs.Option.{option_map, option_or}
use Rattle.std.proofs.lemmas.Bool.{not-false}
use Rattle.std.proofs.lemmas.Bool.Decides.{nat_tests}
use Rattle.std.proofs.lemmas.List.{length-drop, length-take, get_or-drop, get_or_default}
use Rattle.std.proofs.lemmas.List.Sums.{fails_before_first, position_or_len_is}
use Rattle.std.proofs.lemmas.Slice.Zip.{length-zip, get_or-zip}
use Rattle.sm_ranges.specs.Ranges.{IsLayout, shard_of}
use Rattle.sm_ranges.specs.KeyOrder.{is_at_most, is_below}
use Rattle.sm_ranges.specs.LayoutFault.{first_not_rising, first_too_long, first_layout_fault}
use Rattle.sm_ranges.specs.declared.layout.LayoutFault.{LayoutFault}
use Rattle.sm_ranges.specs.declared.layout.LayoutFault.TheVariants.{NotRising, KeyTooLong, TooMany}

no_place : (n len : ℕ) → cond (nat_lt n len) (Some n) None ≡ None → len ≤ n
no_place n len h = grind (arith, nat_tests)

past_the_end : (n len : ℕ) → n ≡ len → ◌≡◌ {A = Option ℕ} (cond (nat_lt n len) (Some n) None) None
past_the_end n len h = grind (arith, nat_tests)

-- if no place is the first whose element passes, every element fails
fails_everywhere : {X : Type 0} (p : X → Bool) (xs : List X) → position p xs ≡ None → (k : ℕ) (d : X) → k < length xs
    → p (get_or xs k d) ≡ false
fails_everywhere p xs h k d lt =
    let past : length xs ≤ position_or_len p xs = no_place (position_or_len p xs) (length xs) h in
    fails_before_first p xs k d (omega arith)

no_place_where_all_fail : {X : Type 0} (p : X → Bool) (xs : List X)
    → ((k : ℕ) (d : X) → k < length xs → p (get_or xs k d) ≡ false) → position p xs ≡ None
no_place_where_all_fail p [] fails = refl
no_place_where_all_fail p (x ∷ xs) fails =
    past_the_end _ _ (position_or_len_is p (x ∷ xs) (length (x ∷ xs)) x (omega arith) (λ k lt. fails k x lt)
    (λ lt. absurd (omega arith)))

neither : {T : Type 0} (o p : Option T) → option_or o p ≡ None → (o ≡ None) × (p ≡ None)
neither None p h = (refl, h)
neither (Some x) p h = cc

unmapped : {T U : Type 0} (f : T → U) (o : Option T) → option_map f o ≡ None → o ≡ None
unmapped f None h = refl
unmapped f (Some x) h = cc

few : (n : ℕ) → ◌≡◌ {A = Option LayoutFault} (cond (nat_lt 4096 n) (Some TooMany) None) None → n ≤ 4096
few n h = grind (arith, nat_tests)

not_many : (n : ℕ) → n ≤ 4096 → ◌≡◌ {A = Option LayoutFault} (cond (nat_lt 4096 n) (Some TooMany) None) None
not_many n h = grind (arith, nat_tests)

at_most_255 : (n : ℕ) → n ≤ 255 → nat_lt 255 n ≡ false
at_most_255 n h = grind (arith, nat_tests)

next_bound : (bounds : List (List ℕ)) (k : ℕ) (d : List ℕ) → get_or (drop 1 bounds) k d ≡ get_or bounds (k + 1) d
next_bound bounds k d = get_or-drop 1 bounds k d ∙ ap (λ n. get_or bounds n d) (omega arith)

rising : (bounds : List (List ℕ)) → first_not_rising bounds ≡ None
    → AllAdjacentBelow (λ low high. is_below low high ≡ true) bounds (length bounds)
rising bounds h k d lt =
    let pairs = zip bounds (drop 1 bounds) in
    let unordered : List ℕ × List ℕ → Bool = λ pair. not (is_below pair.0 pair.1) in
    let within : k < length pairs = omega (arith, length-zip bounds (drop 1 bounds), length-drop 1 bounds) in
    let low = get_or bounds k d in
    let pair = get_or-zip bounds (drop 1 bounds) k (d, d) (omega arith) (omega (arith, length-drop 1 bounds)) in
    let passes =
    fails_everywhere unordered pairs (unmapped (λ low. low + 1) (position unordered pairs) h) k (d, d) within in
    let read = ap (λ high. is_below low high) (next_bound bounds k d) in
    sym read ∙ (ap (λ p. is_below p.0 p.1) (sym pair)
    ∙ not-false (is_below (get_or pairs k (d, d)).0 (get_or pairs k (d, d)).1) passes)

short : (bounds : List (List ℕ)) → first_too_long bounds ≡ None → All (λ bound. length bound ≤ 255) bounds
short bounds h k d lt =
    let fails = fails_everywhere (λ bound. nat_lt 255 (length bound)) bounds h k d lt in
    grind (arith, nat_tests)

-- if bounds have no fault, they are a layout
pub no_fault-layout : (bounds : List (List ℕ)) → first_layout_fault bounds ≡ None → IsLayout bounds
no_fault-layout [] h = cc
no_fault-layout ((byte ∷ bytes) ∷ bounds) h = cc
no_fault-layout ([] ∷ bounds) h =
    let all = [] ∷ bounds in
    let first = neither (option_map NotRising (first_not_rising all)) (option_or
    (option_map KeyTooLong (first_too_long all)) (cond (nat_lt 4096 (length all)) (Some TooMany) None)) h in
    let second = neither (option_map KeyTooLong (first_too_long all))
    (cond (nat_lt 4096 (length all)) (Some TooMany) None) first.1 in
    record {
      some = omega arith;
      few = few (length all) second.1;
      first_empty = refl;
      rising = rising all (unmapped NotRising (first_not_rising all) first.0);
      short = short all (unmapped KeyTooLong (first_too_long all) second.0);
    }

pairs_rise : (bounds : List (List ℕ)) → AllAdjacentBelow (λ low high. is_below low high ≡ true) bounds (length bounds)
    → (k : ℕ) (d : List ℕ × List ℕ) → k < length (zip bounds (drop 1 bounds))
    → not (is_below (get_or (zip bounds (drop 1 bounds)) k d).0 (get_or (zip bounds (drop 1 bounds)) k d).1) ≡ false
pairs_rise bounds rises k d lt =
    let within : k + 1 < length bounds = omega (arith, length-zip bounds (drop 1 bounds), length-drop 1 bounds) in
    let low = get_or bounds k d.0 in
    let pair = get_or-zip bounds (drop 1 bounds) k d (omega arith) (omega (arith, length-drop 1 bounds)) in
    let next = next_bound bounds k d.1 ∙ get_or_default bounds (k + 1) d.1 d.0 within in
    ap (λ p. not (is_below p.0 p.1)) pair ∙ (ap (λ high. not (is_below low high)) next ∙ ap not (rises k d.0 within))

none_unordered : (bounds : List (List ℕ))
    → AllAdjacentBelow (λ low high. is_below low high ≡ true) bounds (length bounds) → first_not_rising bounds ≡ None
none_unordered bounds rises =
    let unordered : List ℕ × List ℕ → Bool = λ pair. not (is_below pair.0 pair.1) in
    ap (λ low. option_map (λ low. low + 1) low)
    (no_place_where_all_fail unordered (zip bounds (drop 1 bounds)) (pairs_rise bounds rises))

none_too_long : (bounds : List (List ℕ)) → All (λ bound. length bound ≤ 255) bounds → first_too_long bounds ≡ None
none_too_long bounds fits = no_place_where_all_fail (λ bound. nat_lt 255 (length bound)) bounds
    (λ k d lt. at_most_255 (length (get_or bounds k d)) (fits k d lt))

-- if bounds are a layout, they have no fault
pub layout-no_fault : (bounds : List (List ℕ)) → IsLayout bounds → first_layout_fault bounds ≡ None
layout-no_fault [] layout = absurd (omega (arith, layout.some))
layout-no_fault ((byte ∷ bytes) ∷ bounds) layout = cc
layout-no_fault ([] ∷ bounds) layout =
    rw (
      none_unordered ([] ∷ bounds) layout.rising,
      none_too_long ([] ∷ bounds) layout.short,
    ) (not_many (length ([] ∷ bounds)) layout.few)

-- the shard of a key is one of the layout's
pub shard_of-within : (bounds : List (List ℕ)) (key : List ℕ) → IsLayout bounds → shard_of bounds key < length bounds
shard_of-within bounds key layout =
    let some = layout.some in
    let last = length bounds - suffix_len (λ bound. not (is_at_most bound key)) bounds - 1 in
    omega (arith, length-take last bounds)
