-- The contents of a sheet at each place.
use Rattle.std.proofs.Common.{ℕ, ◌<◌, ◌≡◌, List, length, get_or, set, Option, Some, None, ap, sym, ◌∙◌, arith}
use Rattle.std.proofs.Common.{cond, eqb, true, false, inl, inr}
use Rattle.std.specs.Prelude.{slice_index, unwrap_or}
use Rattle.std.proofs.lemmas.Bool.{eq-eqb, ne_eqb}
use Rattle.std.proofs.lemmas.Bool.Decides.{eqb_tells}
use Rattle.std.proofs.lemmas.List.{ext_get_or, get_or-set_same, get_or-set_other, length-set}
use Rattle.std.proofs.lemmas.List.FromFn.{get_or-map-range_with_len, length-map-range_with_len}
use Rattle.sm_place.specs.Sheets.{sheet_count, counts_of}

-- there are as many counters as the table has
pub length-counts_of : (table : List ℕ) (f : ℕ → Option ℕ) → length (counts_of table f) ≡ length table
length-counts_of table f = length-map-range_with_len (sheet_count table f) 0 (length table)

-- the counter at a place
pub at-counts_of : (table : List ℕ) (f : ℕ → Option ℕ) (i : ℕ) → i < length table
    → slice_index (counts_of table f) i ≡ sheet_count table f i
at-counts_of table f i h = get_or-map-range_with_len (sheet_count table f) 0 (length table) i i 0 h (omega arith)

-- if none was set, the counters are the table's
pub counts_of-none : (table : List ℕ) (f : ℕ → Option ℕ) → ((q : ℕ) → f q ≡ None) → counts_of table f ≡ table
counts_of-none table f none =
    ext_get_or 0 (counts_of table f) table (length-counts_of table f) (λ i h.
    let inside : i < length table = rw (length-counts_of table f) at h in
    at-counts_of table f i inside ∙ ap (λ o. unwrap_or o (slice_index table i)) (none i))

-- if one was set, it is written
pub counts_of-set : (table : List ℕ) (f g : ℕ → Option ℕ) (at n : ℕ) → at < length (counts_of table f)
    → ((q : ℕ) → g q ≡ cond (eqb at q) (Some n) (f q))
    → counts_of table g ≡ set (counts_of table f) at n
counts_of-set table f g at n here e =
    ext_get_or 0 (counts_of table g) (set (counts_of table f) at n)
    (length-counts_of table g ∙ sym (length-set (counts_of table f) at n ∙ length-counts_of table f)) (λ i h.
    let inside : i < length table = rw (length-counts_of table g) at h in
    let value = at-counts_of table g i inside ∙ ap (λ o. unwrap_or o (slice_index table i)) (e i) in
    elim (eqb_tells i at) [
      | inl p ↦
          let same : eqb at i ≡ true = eq-eqb at i (sym p.1) in
          value ∙ ap (λ b. unwrap_or (cond b (Some n) (f i)) (slice_index table i)) same
          ∙ sym (ap (λ j. get_or (set (counts_of table f) at n) j 0) p.1
          ∙ get_or-set_same (counts_of table f) at n 0 here)
      | inr p ↦
          let apart : eqb at i ≡ false = ne_eqb at i (λ s. p.1 (sym s)) in
          value ∙ ap (λ b. unwrap_or (cond b (Some n) (f i)) (slice_index table i)) apart
          ∙ sym (get_or-set_other (counts_of table f) at i n 0 p.1 ∙ at-counts_of table f i inside)
    ])
