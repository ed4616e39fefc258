-- A generation counts the entries of its shard.
use Rattle.std.proofs.Common.{◌≡◌, ◌≢◌, ℕ, ◌+◌, Bool, true, false, List, [], ◌∷◌, ◌++◌, refl, sym, ap, subst, ◌∙◌}
use Rattle.std.proofs.Common.{arith, ⊎_elim}
use Rattle.std.specs.Prelude.{reverse, ◌==◌, if◌then◌else◌}
use Rattle.std.specs.List.{count_by}
use Rattle.std.proofs.lemmas.Bool.{cases_eq, eq-eqb}
use Rattle.std.proofs.lemmas.Bool.Decides.{nat_tests}
use Rattle.std.proofs.lemmas.List.{reverse-append}
use Rattle.std.proofs.lemmas.List.Sums.{sum_by-append, sum_by-cons}
use Rattle.sm_ownership.specs.declared.entry.Entry.{Entry}
use Rattle.sm_ownership.specs.declared.entry.Kind.{Kind}
use Rattle.sm_ownership.specs.declared.entry.Kind.TheVariants.{Change as Changed, Admit, Done}
use Rattle.sm_ownership.specs.declared.record.Record.{Record}
use Rattle.sm_ownership.specs.History.{record_at, after_kind, table_of, table_of_latest, IsLegal, IsLegalLatest}
use Rattle.sm_ownership.specs.lemmas.Growth.{record_at-empty, record_at-latest, record_at-latest_other, legal_prefix}

one_more : {Q : Type 0} (state : Record) (kind : Kind Q) → (after_kind state kind).generation ≡ state.generation + 1
one_more state (Changed change) = refl
one_more state (Admit server mode) = refl
one_more state (Done ending) = refl

count_by-cons : {X : Type 0} (test : X → Bool) (x : X) (xs : List X)
    → count_by test (x ∷ xs) ≡ (if test x then 1 else 0) + count_by test xs
count_by-cons test x xs = sum_by-cons (λ y. if test y then 1 else 0) x xs

counted_at : {X : Type 0} (test : X → Bool) (x : X) (xs : List X) (passes : Bool) → test x ≡ passes
    → count_by test (x ∷ xs) ≡ (if passes then 1 else 0) + count_by test xs
counted_at test x xs passes is = count_by-cons test x xs ∙ ap (λ b. (if b then 1 else 0) + count_by test xs) is

count_by-reverse : {X : Type 0} (test : X → Bool) (xs : List X) → count_by test (reverse xs) ≡ count_by test xs
count_by-reverse test [] = refl
count_by-reverse test (x ∷ xs) =
    let turned = ap (count_by test) (reverse-append (x ∷ []) xs) in
    let joined = sum_by-append (λ y. if test y then 1 else 0) (reverse xs) (x ∷ []) in
    let shorter = count_by-reverse test xs in
    let one = count_by-cons test x [] in
    let longer = count_by-cons test x xs in
    turned ∙ (joined ∙ omega arith)

module _ {Q : Type 0} (count ceiling : ℕ) where
  generation_latest : (earlier : List (Entry Q)) (shard : ℕ) → IsLegalLatest count ceiling earlier
      → (record_at (table_of_latest count ceiling earlier) shard).generation
      ≡ count_by (λ entry. entry.shard == shard) earlier
  generation_latest [] shard legal = ap (λ state. state.generation) (record_at-empty count shard)
  generation_latest (entry ∷ earlier) shard legal =
      let before = generation_latest earlier shard legal.1 in
      ⊎_elim
      (λ (same : shard ≡ entry.shard).
      let yes : (entry.shard == shard) ≡ true = eq-eqb entry.shard shard (sym same) in
      let at : (record_at (table_of_latest count ceiling (entry ∷ earlier)) entry.shard).generation
      ≡ (record_at (table_of_latest count ceiling earlier) entry.shard).generation + 1 =
      ap (λ state. state.generation) (record_at-latest count ceiling entry earlier legal.0) ∙ one_more _ entry.kind in
      let here : (record_at (table_of_latest count ceiling (entry ∷ earlier)) shard).generation
      ≡ (record_at (table_of_latest count ceiling earlier) shard).generation + 1 =
      subst (λ k. (record_at (table_of_latest count ceiling (entry ∷ earlier)) k).generation
      ≡ (record_at (table_of_latest count ceiling earlier) k).generation + 1) (sym same) at in
      let counted = counted_at (λ one. one.shard == shard) entry earlier true yes in
      omega arith)
      (λ (apart : shard ≢ entry.shard).
      let other : (entry.shard == shard) ≡ false = grind (arith, nat_tests) in
      let at : (record_at (table_of_latest count ceiling (entry ∷ earlier)) shard).generation
      ≡ (record_at (table_of_latest count ceiling earlier) shard).generation =
      ap (λ state. state.generation) (record_at-latest_other count ceiling entry earlier shard apart legal.0) in
      let counted = counted_at (λ one. one.shard == shard) entry earlier false other in
      omega arith)
      (cases_eq shard entry.shard)

  -- in a legal history a shard's generation is the number of its entries
  pub generation : (history : List (Entry Q)) (shard : ℕ) → IsLegal count ceiling history
      → (record_at (table_of count ceiling history) shard).generation ≡ count_by (λ entry. entry.shard == shard) history
  generation history shard legal =
      generation_latest (reverse history) shard legal ∙ count_by-reverse (λ entry. entry.shard == shard) history

  stays_latest : (later earlier : List (Entry Q)) (shard : ℕ) → IsLegalLatest count ceiling (later ++ earlier)
      → count_by (λ entry. entry.shard == shard) later ≡ 0 → record_at
      (table_of_latest count ceiling (later ++ earlier)) shard ≡ record_at (table_of_latest count ceiling earlier) shard
  stays_latest [] earlier shard legal none = refl
  stays_latest (entry ∷ later) earlier shard legal none =
      ⊎_elim
      (λ (same : shard ≡ entry.shard).
      let counted = counted_at (λ one. one.shard == shard) entry later true (eq-eqb entry.shard shard (sym same)) in
      absurd (omega arith))
      (λ (apart : shard ≢ entry.shard).
      let other : (entry.shard == shard) ≡ false = grind (arith, nat_tests) in
      let counted = counted_at (λ one. one.shard == shard) entry later false other in
      record_at-latest_other count ceiling entry (later ++ earlier) shard apart legal.0
      ∙ stays_latest later earlier shard legal.1 (omega arith))
      (cases_eq shard entry.shard)

  -- if none of the later entries is the shard's, its record stays
  stays : (history later : List (Entry Q)) (shard : ℕ) → IsLegal count ceiling (history ++ later)
      → count_by (λ entry. entry.shard == shard) later ≡ 0
      → record_at (table_of count ceiling (history ++ later)) shard ≡ record_at (table_of count ceiling history) shard
  stays history later shard legal none =
      let turned = reverse-append history later in
      ap (λ entries. record_at (table_of_latest count ceiling entries) shard) turned
      ∙ stays_latest (reverse later) (reverse history) shard (subst (IsLegalLatest count ceiling) turned legal)
      (count_by-reverse (λ entry. entry.shard == shard) later ∙ none)

  -- if the generations are equal, a shard has the same record
  pub same_record : (history later : List (Entry Q)) (shard : ℕ) → IsLegal count ceiling (history ++ later)
      → (record_at (table_of count ceiling history) shard).generation
      ≡ (record_at (table_of count ceiling (history ++ later)) shard).generation
      → record_at (table_of count ceiling history) shard ≡ record_at (table_of count ceiling (history ++ later)) shard
  same_record history later shard legal same =
      let before = generation history shard (legal_prefix count ceiling history later legal) in
      let after = generation (history ++ later) shard legal in
      let joined = sum_by-append (λ entry. if entry.shard == shard then 1 else 0) history later in
      sym (stays history later shard legal (omega arith))
