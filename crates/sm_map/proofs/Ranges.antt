-- The part of a key map between two edges.
use Rattle.std.proofs.Common.{◌≡◌, ℕ, zero, suc, ◌<◌, ◌≤◌, ◌+◌, ◌-◌, min, Bool, true, false, List, [], ◌∷◌, ◌++◌}
use Rattle.std.proofs.Common.{length, get_or, map, take, drop, refl, sym, ap, ◌∙◌, arith, inl, inr, ◌⊎◌}
use Rattle.std.specs.Prelude.{not, ◌&&◌}
use Rattle.std.specs.List.{HoldsAt, filter, between}
use Rattle.std.specs.Borrow.{Bor}
use Rattle.std.proofs.lemmas.Bool.{cases_lt}
use Rattle.std.proofs.lemmas.List.{take-take, take_all, length-take, map_push}
use Rattle.std.proofs.lemmas.List.Edits.{between_more}
use Rattle.sm_ranges.specs.Keyed.{comes_before}
use Rattle.sm_map.specs.KeyMap.{KeyPair, key_of, within, IsEdgeOf}
use Rattle.sm_map.specs.Val.{row_of}
use Rattle.sm_map.specs.declared.val.Val.{Val}

module _ (p : KeyPair → Bool) where
  -- the pairs that pass are those from one place up to another
  filter-part : (m : List KeyPair) (low high : ℕ)
      → ((k : ℕ) (d : KeyPair) → k < low → k < length m → p (get_or m k d) ≡ false)
      → ((k : ℕ) (d : KeyPair) → low ≤ k → k < high → k < length m → p (get_or m k d) ≡ true)
      → ((k : ℕ) (d : KeyPair) → high ≤ k → k < length m → p (get_or m k d) ≡ false)
      → filter p m ≡ take (high - low) (drop low m)
  filter-part [] zero zero before inside after = refl
  filter-part [] zero (suc high) before inside after = sym (take_all (suc high - 0) [] (omega arith))
  filter-part [] (suc low) high before inside after = sym (take_all (high - suc low) [] (omega arith))
  filter-part (x ∷ xs) zero zero before inside after =
      let here : p x ≡ false = after 0 x (omega arith) (omega arith) in
      rw here (filter-part xs zero zero (λ k d lt in_m. absurd (omega arith)) (λ k d le lt in_m. absurd (omega arith))
      (λ k d le in_m. after (suc k) d (omega arith) (omega arith)))
  filter-part (x ∷ xs) zero (suc high) before inside after =
      let here : p x ≡ true = inside 0 x (omega arith) (omega arith) (omega arith) in
      let whole : suc high - 0 ≡ suc high = omega arith in
      let rest : high - 0 ≡ high = omega arith in
      rw (here, whole, ← rest) (ap (λ l. x ∷ l) (filter-part xs zero high (λ k d lt in_m. absurd (omega arith))
      (λ k d le lt in_m. inside (suc k) d (omega arith) (omega arith) (omega arith))
      (λ k d le in_m. after (suc k) d (omega arith) (omega arith))))
  filter-part (x ∷ xs) (suc low) high before inside after =
      let here : p x ≡ false = before 0 x (omega arith) (omega arith) in
      let less : (high - 1) - low ≡ high - suc low = omega arith in
      rw (here, ← less) (filter-part xs low (high - 1) (λ k d lt in_m. before (suc k) d (omega arith) (omega arith))
      (λ k d le lt in_m. inside (suc k) d (omega arith) (omega arith) (omega arith))
      (λ k d le in_m. after (suc k) d (omega arith) (omega arith)))

-- the first max of the pairs within a range stand from the edge of its low key on
pub rows_within : (m : List KeyPair) (low high : List ℕ) (start end max stop : ℕ) → IsEdgeOf m low start
    → IsEdgeOf m high end → stop - start ≡ min (end - start) max → between start stop m ≡ take max (within m low high)
rows_within m low high start end max stop first last long =
    let part = filter-part
    (λ (pair : KeyPair). not (comes_before key_of low pair) && comes_before key_of high pair) m start end
    (λ k d lt in_m. ap (λ (b : Bool). not b && comes_before key_of high (get_or m k d))
    (first.apart.0 k d (omega arith) lt))
    (λ k d le lt in_m. ap (λ (b : Bool). not b && comes_before key_of high (get_or m k d)) (first.apart.1 k d le in_m)
    ∙ last.apart.0 k d (omega arith) lt)
    (λ k d le in_m. both_false (comes_before key_of low (get_or m k d)) (comes_before key_of high (get_or m k d))
    (last.apart.1 k d le in_m)) in
    rw (part, long) (shorter (cases_lt max (end - start)))
  where
    both_false : (a b : Bool) → b ≡ false → (not a && b) ≡ false
    both_false true b h = refl
    both_false false b h = h

    shorter : (max < end - start) ⊎ (end - start ≤ max)
        → take (min (end - start) max) (drop start m) ≡ take max (take (end - start) (drop start m))
    shorter (inl lt) =
        let n : min (end - start) max ≡ max = omega arith in
        rw n (sym (take-take max (end - start) (drop start m) (omega arith)))
    shorter (inr le) =
        let n : min (end - start) max ≡ end - start = omega arith in
        rw n (sym (take_all max (take (end - start) (drop start m))
        (omega (arith, length-take (end - start) (drop start m)))))

-- the rows of a scan get the next one
pub rows_more : (m : List KeyPair) (start at : ℕ) → start ≤ at → at < length m
    → (rows : List (Bor (List ℕ) × Val)) (row : Bor (List ℕ) × Val) → map row_of rows ≡ between start at m
    → HoldsAt (λ (pair : KeyPair). row_of row ≡ pair) m at → map row_of (rows ++ row ∷ []) ≡ between start (at + 1) m
rows_more m start at le within rows row before here =
    map_push row_of rows row
    ∙ ((λ i. before i ++ here (row_of row) i ∷ []) ∙ sym (between_more m start at (row_of row) le within))
