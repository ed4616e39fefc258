-- Exactly one range covers a key.
use Rattle.std.proofs.Common.{◌≡◌, ◌==◌, ℕ, zero, suc, ◌+◌, ◌-◌, ◌<◌, ◌≤◌, Bool, true, false, List, [], length, get_or}
use Rattle.std.proofs.Common.{refl, subst, sym, ap, ◌∙◌, arith, inl, inr}
use Rattle.std.specs.Prelude.{not, IsTrue}
use Rattle.std.specs.List.{suffix_len}
use Rattle.std.specs.List.Sorted.{IsPartitionedBy, IsPartitionPoint, IsSortedBy}
use Rattle.std.specs.declared.cmp.Ordering.{Ordering}
use Rattle.std.specs.declared.cmp.Ordering.TheVariants.{Less, Equal, Greater}
use Rattle.std.specs.Ordering.{nat_cmp, is_lt, is_le, ordering_index}
use Rattle.std.specs.Cmp.Lexicographic.{slice_cmp}
use Rattle.std.proofs.lemmas.Bool.{cases_Bool, cases_lt, eq-eqb, eqb-true, true≢false}
use Rattle.std.proofs.lemmas.Cmp.{nat_list_cmp_total}
use Rattle.std.proofs.lemmas.List.{length-take}
use Rattle.std.proofs.lemmas.List.Sorted.{searchable_from_sorted}
use Rattle.std.proofs.lemmas.List.Sums.{suffix_len_is}
use Rattle.std.proofs.lemmas.Option.{slice_get-get_or, slice_get_past, get_or_from_slice_get}
use Rattle.sm_ranges.specs.Ranges.{Covers, IsLayout, shard_of}
use Rattle.sm_ranges.specs.KeyOrder.{is_below, is_at_most}
use Rattle.sm_ranges.proofs.Comparisons.{is_below-flip, at_most_empty, below_back}

index_of_le : (o : Ordering) → is_le o ≡ true → ordering_index o ≤ 1
index_of_le Less h = omega arith
index_of_le Equal h = omega arith
index_of_le Greater h = cc

le_from_index : (o : Ordering) → ordering_index o ≤ 1 → is_le o ≡ true
le_from_index Less h = refl
le_from_index Equal h = refl
le_from_index Greater h = absurd (omega arith)

-- no bound that is at most the key comes after one that is above the key
pub parted : (bounds : List (List ℕ)) (key : List ℕ) → IsLayout bounds
    → IsPartitionedBy (λ bound. is_at_most bound key) bounds
parted bounds key layout i j d le lt h =
    let sorted : IsSortedBy (λ a b. is_lt (slice_cmp nat_cmp a b)) bounds =
    λ k e low high. below_back (get_or bounds k e) (get_or bounds (k + 1) e) (layout.rising k e high) in
    let rise = searchable_from_sorted nat_list_cmp_total (λ bound. bound) bounds key sorted i j d le lt in
    let last = index_of_le (slice_cmp nat_cmp (get_or bounds j d) key) h in
    le_from_index (slice_cmp nat_cmp (get_or bounds i d) key) (omega arith)

-- the same as Covers, in terms of the bounds
record IsBetween (bounds : List (List ℕ)) (k : ℕ) (key : List ℕ) : Type 0 where
  within : k < length bounds
  low : is_at_most (get_or bounds k []) key ≡ true
  high : k + 1 < length bounds → is_below key (get_or bounds (k + 1) []) ≡ true

covers_between : (bounds : List (List ℕ)) (k : ℕ) (key : List ℕ) → IsBetween bounds k key → Covers bounds k key
covers_between bounds k key between = (
  rw (slice_get-get_or bounds k [] between.within) between.low,
  elim (cases_lt (k + 1) (length bounds)) [
    | inl lt ↦ rw (slice_get-get_or bounds (k + 1) [] lt) (between.high lt)
    | inr past ↦ rw (slice_get_past bounds (k + 1) past) tt
  ],
)

between_covers : (bounds : List (List ℕ)) (k : ℕ) (key : List ℕ) → Covers bounds k key → IsBetween bounds k key
between_covers bounds k key covers =
    let within : k < length bounds = elim (cases_lt k (length bounds)) [
      | inl lt ↦ lt
      | inr past ↦ absurd (rw (slice_get_past bounds k past) at covers.0)
    ] in
    record {
      within = within;
      low = rw (slice_get-get_or bounds k [] within) at covers.0;
      high = λ lt. rw (slice_get-get_or bounds (k + 1) [] lt) at covers.1;
    }

-- a search that stopped after all bounds that are at most the key
module _ (bounds : List (List ℕ)) (key : List ℕ) (layout : IsLayout bounds) (reached : ℕ)
    (within : reached ≤ length bounds)
    (point : IsPartitionPoint (λ bound. is_at_most bound key ≡ true)
    (λ bound. is_at_most bound key ≡ false) bounds reached) where
  pub some_reached : 1 ≤ reached
  some_reached = elim (cases_lt 0 reached) [
    | inl lt ↦ omega arith
    | inr none ↦
        let first : get_or bounds 0 [] ≡ [] = get_or_from_slice_get bounds 0 [] [] layout.first_empty in
        let above = point.1 0 [] (omega arith) (omega (arith, layout.some)) in
        absurd (true≢false (sym (at_most_empty key) ∙ (ap (λ bound. is_at_most bound key) (sym first) ∙ above)))
  ]

  pub last_place : reached - 1 ≡ shard_of bounds key
  last_place =
      let above : List ℕ → Bool = λ bound. not (is_at_most bound key) in
      let after : suffix_len above bounds ≡ length bounds - reached =
      suffix_len_is above bounds reached [] within
      (λ k from below. ap not (point.1 k [] from below))
      (λ some. ap not (point.0 (reached - 1) [] (omega arith) (omega (arith, some_reached)))) in
      omega (arith, after, some_reached, length-take (length bounds - suffix_len above bounds - 1) bounds)

  pub covering : Covers bounds (reached - 1) key
  covering = covers_between bounds (reached - 1) key (record {
    within = omega (arith, some_reached);
    low = point.0 (reached - 1) [] (omega arith) (omega (arith, some_reached));
    high = λ lt. is_below-flip (get_or bounds (reached - 1 + 1) []) key
        ∙ ap not (point.1 (reached - 1 + 1) [] (omega (arith, some_reached)) lt);
  })

  pub only : (k : ℕ) → Covers bounds k key → k ≡ reached - 1
  only k covers =
      let between = between_covers bounds k key covers in
      elim (cases_lt (k + 1) reached) [
        | inl before ↦
            let reaches = point.0 (k + 1) [] (omega arith) before in
            let above = between.high (omega arith) in
            absurd (true≢false (sym above ∙ (is_below-flip (get_or bounds (k + 1) []) key ∙ ap not reaches)))
        | inr after ↦ elim (cases_lt k reached) [
          | inl here ↦ omega arith
          | inr past ↦ absurd (true≢false (sym between.low ∙ point.1 k [] past between.within))
        ]
      ]

-- the place behind the last bound that is at most the key
record IsReached (bounds : List (List ℕ)) (key : List ℕ) (reached : ℕ) : Type 0 where
  within : reached ≤ length bounds
  point : IsPartitionPoint (λ bound. is_at_most bound key ≡ true) (λ bound. is_at_most bound key ≡ false) bounds reached

-- the shard of a key is the one whose range covers it
module _ (bounds : List (List ℕ)) (key : List ℕ) (layout : IsLayout bounds) where
  abbrev AllAbove : ℕ → Type 0
  AllAbove n = (i : ℕ) (d : List ℕ) → n ≤ i → i < length bounds → is_at_most (get_or bounds i d) key ≡ false

  same_bound : (n : ℕ) (d : List ℕ) → n < length bounds → get_or bounds n d ≡ get_or bounds n []
  same_bound n d within = get_or_from_slice_get bounds n (get_or bounds n []) d (slice_get-get_or bounds n [] within)

  last_low : (n : ℕ) → suc n ≤ length bounds → AllAbove (suc n) → is_at_most (get_or bounds n []) key ≡ true
      → IsReached bounds key (suc n)
  last_low n within above low = record {
    within = within;
    point = (
      λ i d from before. parted bounds key layout i n d (omega arith) (omega arith) (ap
          (λ bound. is_at_most bound key) (same_bound n d (omega arith)) ∙ low),
      above,
    );
  }

  one_above : (n : ℕ) → suc n ≤ length bounds → AllAbove (suc n) → is_at_most (get_or bounds n []) key ≡ false
      → AllAbove n
  one_above n within above high i d from before = elim (cases_lt n i) [
    | inl after ↦ above i d (omega arith) before
    | inr upto ↦ (let here : i ≡ n = omega arith in
        rw here (ap (λ bound. is_at_most bound key) (same_bound n d (omega arith)) ∙ high))
  ]

  reached_or : (n : ℕ) (b : Bool) → is_at_most (get_or bounds n []) key ≡ b → suc n ≤ length bounds → AllAbove (suc n)
      → (AllAbove n → (reached : ℕ) × IsReached bounds key reached) → (reached : ℕ) × IsReached bounds key reached
  reached_or n true low within above further = (suc n, last_low n within above low)
  reached_or n false high within above further = further (one_above n within above high)

  reached_below : (n : ℕ) → n ≤ length bounds → AllAbove n → (reached : ℕ) × IsReached bounds key reached
  reached_below zero within above =
      (0, record { within = within; point = (λ i d from before. absurd (omega arith), above) })
  reached_below (suc n) within above =
      reached_or n (is_at_most (get_or bounds n []) key) refl within above (reached_below n (omega arith))

  some_place : (reached : ℕ) × IsReached bounds key reached
  some_place = reached_below (length bounds) (omega arith) (λ i d from before. absurd (omega arith))

  pub shard_of-covers : Covers bounds (shard_of bounds key) key
  shard_of-covers =
      let at = some_place in
      subst (λ k. Covers bounds k key) (last_place bounds key layout at.0 at.1.within at.1.point)
      (covering bounds key layout at.0 at.1.within at.1.point)

  pub shard_of-only : (k : ℕ) → Covers bounds k key → shard_of bounds key ≡ k
  shard_of-only k covers =
      let at = some_place in
      sym (only bounds key layout at.0 at.1.within at.1.point k covers
      ∙ last_place bounds key layout at.0 at.1.within at.1.point)

  -- one test of its range tells whether a shard is the key's
  pub is_shard_of : (k : ℕ) (within : Bool) → (IsTrue within → Covers bounds k key)
      → (Covers bounds k key → IsTrue within) → within ≡ (shard_of bounds key == k)
  is_shard_of k true covers back = sym (eq-eqb (shard_of bounds key) k (shard_of-only k (covers refl)))
  is_shard_of k false covers back = elim (cases_Bool (shard_of bounds key == k)) [
    | inl same ↦ absurd (true≢false
        (sym (back (subst (λ at. Covers bounds at key) (eqb-true (shard_of bounds key) k same) shard_of-covers))))
    | inr other ↦ sym other
  ]
