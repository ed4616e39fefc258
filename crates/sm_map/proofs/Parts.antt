-- A key map in three parts: facts about its middle part hold for the map.
use Rattle.std.proofs.Common.{◌≡◌, ℕ, ◌<◌, ◌≤◌, ◌+◌, ◌-◌, List, ◌++◌, length, get_or, ap, subst, ◌∙◌, arith, inl, inr}
use Rattle.std.proofs.Common.{length-append}
use Rattle.std.specs.List.{AllWithin}
use Rattle.std.specs.declared.cmp.Ordering.TheVariants.{Less, Greater}
use Rattle.std.proofs.lemmas.Bool.{cases_lt}
use Rattle.std.proofs.lemmas.List.{get_or-append-add, get_or_append_left}
use Rattle.sm_ranges.specs.KeyOrder.{key_cmp}
use Rattle.sm_ranges.specs.Keyed.{IsKeyPlace, IsKeyGap}
use Rattle.sm_map.specs.KeyMap.{KeyPair, key_of, IsKeyMap}

module _ (m front part back : List KeyPair) (is : m ≡ front ++ (part ++ back)) where
  pub length_parts : length m ≡ length front + (length part + length back)
  length_parts = ap (λ (l : List KeyPair). length l) is
      ∙ (length-append front (part ++ back) ∙ ap (λ (n : ℕ). length front + n) (length-append part back))

  pub part_read : (k : ℕ) (d : KeyPair) → k < length part → get_or m (length front + k) d ≡ get_or part k d
  part_read k d lt = ap (λ (l : List KeyPair). get_or l (length front + k) d) is
      ∙ (get_or-append-add front (part ++ back) k d ∙ get_or_append_left part back d k lt)

  pub part_rises : IsKeyMap m → IsKeyMap part
  part_rises rising i j d less within =
      let first = part_read i d (omega arith) in
      let second = part_read j d within in
      rw (
        ← first,
        ← second,
      ) (rising (length front + i) (length front + j) d (omega arith) (omega (arith, length_parts)))

  module _ (key : List ℕ) (at : ℕ) where
    pub place_in_part : IsKeyPlace key_of part key at → IsKeyPlace key_of m key (length front + at)
    place_in_part place = record {
      within = omega (arith, length_parts, place.within);
      same = λ d. rw (part_read at d place.within) (place.same d);
    }

    module _ (before : AllWithin (λ (pair : KeyPair). key_cmp pair.key key ≡ Less) m 0 (length front))
        (after : AllWithin (λ (pair : KeyPair). key_cmp pair.key key ≡ Greater) m (length front + length part)
        (length m)) (gap : IsKeyGap key_of part key at) where
      in_front : (k : ℕ) (d : KeyPair) → 0 ≤ k → k < length front + at → key_cmp (get_or m k d).key key ≡ Less
      in_front k d _ less = elim (cases_lt k (length front)) [
        | inl lt ↦ before k d (omega arith) lt
        | inr ge ↦ here (k - length front) (omega (arith, gap.within))
      ]
        where
          here : (n : ℕ) → length front + n ≡ k → key_cmp (get_or m k d).key key ≡ Less
          here n same = subst (λ (i : ℕ). key_cmp (get_or m i d).key key ≡ Less) same
              (rw (part_read n d (omega (arith, gap.within))) (gap.apart.0 n d (omega arith) (omega arith)))

      behind : (k : ℕ) (d : KeyPair) → length front + at ≤ k → k < length m → key_cmp (get_or m k d).key key ≡ Greater
      behind k d more within = elim (cases_lt k (length front + length part)) [
        | inl lt ↦ here (k - length front) (omega arith) lt
        | inr ge ↦ after k d ge within
      ]
        where
          here : (n : ℕ) → length front + n ≡ k → k < length front + length part
              → key_cmp (get_or m k d).key key ≡ Greater
          here n same less = subst (λ (i : ℕ). key_cmp (get_or m i d).key key ≡ Greater) same
              (rw (part_read n d (omega arith)) (gap.apart.1 n d (omega arith) (omega arith)))

      pub gap_in_part : IsKeyGap key_of m key (length front + at)
      gap_in_part = record { within = omega (arith, length_parts, gap.within); apart = (in_front, behind) }
