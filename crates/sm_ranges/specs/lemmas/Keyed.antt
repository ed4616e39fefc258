-- Lists in the order of keys: the facts about a place or a gap in such a list, and about the list after a change there.
use Rattle.std.proofs.Common.{◌≡◌, ℕ, suc, ◌<◌, ◌≤◌, ◌+◌, false, List, ◌∷◌, length, get_or, set, take, drop, Some, None}
use Rattle.std.proofs.Common.{sym, ap, subst, inl, inr, arith}
use Rattle.std.specs.List.{All, AllWithin, HoldsAt, filter, find, insert, remove}
use Rattle.std.specs.List.Sorted.{IsNonDecreasingBy}
use Rattle.std.specs.declared.cmp.Ordering.TheVariants.{Less, Equal, Greater}
use Rattle.std.specs.Ordering.{is_lt, is_gt, is_eq, ordering_index}
use Rattle.std.proofs.lemmas.Bool.{cases_lt}
use Rattle.std.proofs.lemmas.Cmp.{nat_list_cmp_total, tied_itself}
use Rattle.std.proofs.lemmas.List.{take-append-drop, get_or_default}
use Rattle.std.proofs.lemmas.List.Elements.{All-cons, filter_passes}
use Rattle.std.proofs.lemmas.List.Kept.{AllPairs-cons, AllPairs-filter}
use Rattle.sm_ranges.specs.KeyOrder.{key_cmp}
use Rattle.sm_ranges.specs.Keyed.{IsInKeyOrder, comes_before, has_key, comes_after, without_key, with_key, IsKeyPlace}
use Rattle.sm_ranges.specs.Keyed.{IsKeyGap}
use Rattle.sm_ranges.specs.lemmas.Cuts.{filter-take, filter-drop, find-at, find-none, set-cut, AllPairs-append}
use Rattle.sm_ranges.specs.lemmas.KeyOrders.{above_from_below, below_from_above, same_key, less_is, greater_is}
use Rattle.sm_ranges.specs.lemmas.KeyOrders.{index_rises}

module _ {X : Type 0} (key_of : X → List ℕ) (xs : List X) (key : List ℕ) (order : IsInKeyOrder key_of xs) where
  -- the premise of the standard library's binary search
  pub rises : IsNonDecreasingBy (λ x. ordering_index (key_cmp (key_of x) key)) xs
  rises i j d upto within =
      elim (cases_lt i j) [
        | inl below ↦ index_rises (key_of (get_or xs i d)) (key_of (get_or xs j d)) key (order i j d below within)
        | inr above ↦ (let same : i ≡ j = omega arith in rw same (omega arith))
      ]

  -- if an element is below the key, each one before it is too; and if an element is above the key, each one after it is
  -- too
  pub below_up_to : (at : ℕ) → at < length xs → HoldsAt (λ x. key_cmp (key_of x) key ≡ Less) xs at
      → AllWithin (λ x. key_cmp (key_of x) key ≡ Less) xs 0 (at + 1)
  below_up_to at within here k d _ low =
      elim (cases_lt k at) [
        | inl before ↦ nat_list_cmp_total.trans (key_of (get_or xs k d)) (key_of (get_or xs at d)) key
            (order k at d before within) (here d)
        | inr after ↦ (let same : k ≡ at = omega arith in rw same (here d))
      ]

  pub above_from : (at : ℕ) → at < length xs → HoldsAt (λ x. key_cmp (key_of x) key ≡ Greater) xs at
      → AllWithin (λ x. key_cmp (key_of x) key ≡ Greater) xs at (length xs)
  above_from at within here k d high inside =
      elim (cases_lt at k) [
        | inl after ↦ above_from_below key (key_of (get_or xs k d))
            (nat_list_cmp_total.trans key (key_of (get_or xs at d)) (key_of (get_or xs k d))
            (below_from_above (key_of (get_or xs at d)) key (here d)) (order at k d after inside))
        | inr before ↦ (let same : k ≡ at = omega arith in rw same (here d))
      ]

  module _ (at : ℕ) (place : IsKeyPlace key_of xs key at) where
    pub key_here : (d : X) → key_of (get_or xs at d) ≡ key
    key_here d = same_key _ _ (place.same d)

    -- the elements before the key's element are below the key, and those after it are above
    pub front : (k : ℕ) (d : X) → k < at → key_cmp (key_of (get_or xs k d)) key ≡ Less
    front k d low = rw (← key_here d) (order k at d low place.within)

    pub back : (k : ℕ) (d : X) → at < k → k < length xs → key_cmp (key_of (get_or xs k d)) key ≡ Greater
    back k d high within = above_from_below key (key_of (get_or xs k d)) (rw (← key_here d) (order at k d high within))

    pub to_here : (k : ℕ) (d : X) → k < suc at → is_gt (key_cmp (key_of (get_or xs k d)) key) ≡ false
    to_here k d low =
        elim (cases_lt k at) [
          | inl before ↦ ap is_gt (front k d before)
          | inr after ↦ (let same : k ≡ at = omega arith in rw same (ap is_gt (place.same d)))
        ]

    pub from_here : (k : ℕ) (d : X) → at ≤ k → k < length xs → is_lt (key_cmp (key_of (get_or xs k d)) key) ≡ false
    from_here k d high within =
        elim (cases_lt at k) [
          | inl after ↦ ap is_lt (back k d after within)
          | inr before ↦ (let same : k ≡ at = omega arith in rw same (ap is_lt (place.same d)))
        ]

    pub before_here : filter (comes_before key_of key) xs ≡ take at xs
    before_here = filter-take (comes_before key_of key) xs at (λ k d _ low. ap is_lt (front k d low))
        (λ k d high within. from_here k d high within)

    pub after_here : filter (comes_after key_of key) xs ≡ drop (suc at) xs
    after_here = filter-drop (comes_after key_of key) xs (suc at) (λ k d _ low. to_here k d low)
        (λ k d high within. ap is_gt (back k d (omega arith) within))

    pub found_here : (d : X) → find (has_key key_of key) xs ≡ Some (get_or xs at d)
    found_here d = find-at (has_key key_of key) xs at d place.within (λ k e _ low. ap is_eq (front k e low))
        (ap is_eq (place.same d))

    pub set_here : (x : X) → set xs at x ≡ with_key key_of xs key x
    set_here x = rw (before_here, after_here) (set-cut xs at x place.within)

    pub remove_here : remove xs at ≡ without_key key_of xs key
    remove_here = rw (before_here, after_here)

  module _ (at : ℕ) (gap : IsKeyGap key_of xs key at) where
    pub before_gap : filter (comes_before key_of key) xs ≡ take at xs
    before_gap = filter-take (comes_before key_of key) xs at (λ k d low high. ap is_lt (gap.apart.0 k d low high))
        (λ k d low high. ap is_lt (gap.apart.1 k d low high))

    pub after_gap : filter (comes_after key_of key) xs ≡ drop at xs
    after_gap = filter-drop (comes_after key_of key) xs at (λ k d low high. ap is_gt (gap.apart.0 k d low high))
        (λ k d low high. ap is_gt (gap.apart.1 k d low high))

    pub found_nowhere : find (has_key key_of key) xs ≡ None
    found_nowhere =
        find-none (has_key key_of key) xs (λ k d _ within. elim (cases_lt k at) [
          | inl low ↦ ap is_eq (gap.apart.0 k d (omega arith) low)
          | inr high ↦ ap is_eq (gap.apart.1 k d high within)
        ])

    pub insert_here : (x : X) → insert xs at x ≡ with_key key_of xs key x
    insert_here x = rw (before_gap, after_gap)

    pub without_here : xs ≡ without_key key_of xs key
    without_here = rw (before_gap, after_gap) (sym (take-append-drop at xs))

  -- the changed list is in order
  under : (k : ℕ) (d : X) → k < length (filter (comes_before key_of key) xs)
      → key_cmp (key_of (get_or (filter (comes_before key_of key) xs) k d)) key ≡ Less
  under k d within = less_is _ (filter_passes (comes_before key_of key) xs k d within)

  over : (k : ℕ) (d : X) → k < length (filter (comes_after key_of key) xs)
      → key_cmp key (key_of (get_or (filter (comes_after key_of key) xs) k d)) ≡ Less
  over k d within = below_from_above (key_of (get_or (filter (comes_after key_of key) xs) k d)) key
      (greater_is _ (filter_passes (comes_after key_of key) xs k d within))

  across : (k : ℕ) (d : X) → k < length (filter (comes_before key_of key) xs)
      → All (λ later. key_cmp (key_of (get_or (filter (comes_before key_of key) xs) k d)) (key_of later) ≡ Less)
      (filter (comes_after key_of key) xs)
  across k d within j e inside = nat_list_cmp_total.trans (key_of (get_or (filter (comes_before key_of key) xs) k d))
      key (key_of (get_or (filter (comes_after key_of key) xs) j e)) (under k d within) (over j e inside)

  pub with_key_in_order : (x : X) → key_of x ≡ key → IsInKeyOrder key_of (with_key key_of xs key x)
  with_key_in_order x named =
      let Rises : X → X → Type 0 = λ one later. key_cmp (key_of one) (key_of later) ≡ Less in
      let low : List X = filter (comes_before key_of key) xs in
      let high : List X = filter (comes_after key_of key) xs in
      let above : All (Rises x) high = λ k d within. rw named (over k d within) in
      AllPairs-append Rises low (x ∷ high) (AllPairs-filter Rises (comes_before key_of key) xs order)
      (AllPairs-cons Rises x high above (AllPairs-filter Rises (comes_after key_of key) xs order)) (λ k d within.
      All-cons (Rises (get_or low k d)) x high (rw named (under k d within)) (across k d within))

  pub without_key_in_order : IsInKeyOrder key_of (without_key key_of xs key)
  without_key_in_order =
      let Rises : X → X → Type 0 = λ one later. key_cmp (key_of one) (key_of later) ≡ Less in
      AllPairs-append Rises (filter (comes_before key_of key) xs) (filter (comes_after key_of key) xs) (AllPairs-filter
      Rises (comes_before key_of key) xs order) (AllPairs-filter Rises (comes_after key_of key) xs order) across

module _ {X : Type 0} (key_of : X → List ℕ) (xs : List X) (order : IsInKeyOrder key_of xs) (at : ℕ)
    (within : at < length xs) (d : X) where
  -- an element stands at the place of its own key
  pub place_itself : IsKeyPlace key_of xs (key_of (get_or xs at d)) at
  place_itself = record {
    within = within;
    same = λ e. subst (λ (x : X). key_cmp (key_of x) (key_of (get_or xs at d))
        ≡ Equal) (get_or_default xs at d e within) (tied_itself nat_list_cmp_total (key_of (get_or xs at d)));
  }
