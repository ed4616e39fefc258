-- A history that grows by one entry.
use Rattle.std.proofs.Common.{◌≡◌, ◌≢◌, ℕ, true, List, [], ◌∷◌, ◌++◌, length, refl, subst, arith, ⊎_elim, ◌∙◌}
use Rattle.std.specs.Prelude.{reverse, replicate, slice_set}
use Rattle.std.proofs.lemmas.List.{reverse-append, get_or-set_same, get_or-set_other, get_or-replicate, get_or_past}
use Rattle.std.proofs.lemmas.List.{length-set, length-replicate}
use Rattle.std.proofs.lemmas.Bool.{and_parts, cases_lt, cond_both, ltb-true}
use Rattle.sm_ownership.specs.declared.entry.Entry.{Entry}
use Rattle.sm_ownership.specs.declared.record.Record.{Record}
use Rattle.sm_ownership.specs.History.{vacant, record_at, after_kind, fits, table_of, table_of_latest, IsLegal}
use Rattle.sm_ownership.specs.History.{IsLegalLatest}

-- the empty table has a vacant record for every shard
pub record_at-empty : (count shard : ℕ) → record_at (replicate count vacant) shard ≡ vacant
record_at-empty count shard =
    ⊎_elim
    (λ within. get_or-replicate count shard vacant vacant within)
    (λ past. get_or_past (replicate count vacant) shard vacant (omega (arith, length-replicate count vacant)))
    (cases_lt shard count)

-- below, `earlier` lists the entries before one, the latest of them first
module _ {Q : Type 0} (count ceiling : ℕ) where
  abbrev table : List (Entry Q) → List Record
  table earlier = table_of_latest count ceiling earlier

  -- the entry fits after these
  abbrev FitsAfter : List (Entry Q) → Entry Q → Type 0
  FitsAfter earlier entry = fits ceiling earlier (table earlier) entry ≡ true

  -- the record of the entry's shard after it
  abbrev after : List (Entry Q) → Entry Q → Record
  after earlier entry = after_kind (record_at (table earlier) entry.shard) entry.kind

  length-table_of_latest : (earlier : List (Entry Q)) → length (table earlier) ≡ count
  length-table_of_latest [] = length-replicate count vacant
  length-table_of_latest (entry ∷ earlier) =
      let before = length-table_of_latest earlier in
      cond_both (fits ceiling earlier (table earlier) entry) _ _ (λ t. length t ≡ count)
      (λ _. length-set (table earlier) entry.shard (after earlier entry) ∙ before) (λ _. before)

  -- a table has a record for each shard
  pub length-table_of : (history : List (Entry Q)) → length (table_of count ceiling history) ≡ count
  length-table_of history = length-table_of_latest (reverse history)

  -- an entry that fits changes the record of its shard
  pub record_at-latest : (entry : Entry Q) (earlier : List (Entry Q)) → FitsAfter earlier entry
      → record_at (table (entry ∷ earlier)) entry.shard ≡ after earlier entry
  record_at-latest entry earlier fit =
      let there = ltb-true entry.shard (length (table earlier)) (and_parts _ _ fit).0 in
      rw fit (get_or-set_same (table earlier) entry.shard (after earlier entry) vacant there)

  -- an entry that fits doesn't change the record of any other shard
  pub record_at-latest_other : (entry : Entry Q) (earlier : List (Entry Q)) (shard : ℕ) → shard ≢ entry.shard
      → FitsAfter earlier entry → record_at (table (entry ∷ earlier)) shard ≡ record_at (table earlier) shard
  record_at-latest_other entry earlier shard apart fit =
      rw fit (get_or-set_other (table earlier) entry.shard shard (after earlier entry) vacant apart)

  -- the same for an entry at the end of a history
  pub table_of-push : (history : List (Entry Q)) (entry : Entry Q) → FitsAfter (reverse history) entry
      → table_of count ceiling (history ++ entry ∷ [])
      ≡ slice_set (table_of count ceiling history) entry.shard (after (reverse history) entry)
  table_of-push history entry fit = rw (reverse-append history (entry ∷ [])) (rw fit refl)

  pub record_at-push : (history : List (Entry Q)) (entry : Entry Q) → FitsAfter (reverse history) entry
      → record_at (table_of count ceiling (history ++ entry ∷ [])) entry.shard ≡ after (reverse history) entry
  record_at-push history entry fit =
      rw (reverse-append history (entry ∷ [])) (record_at-latest entry (reverse history) fit)

  pub record_at-push_other : (history : List (Entry Q)) (entry : Entry Q) (shard : ℕ) → shard ≢ entry.shard
      → FitsAfter (reverse history) entry → record_at (table_of count ceiling (history ++ entry ∷ [])) shard
      ≡ record_at (table_of count ceiling history) shard
  record_at-push_other history entry shard apart fit =
      rw (reverse-append history (entry ∷ [])) (record_at-latest_other entry (reverse history) shard apart fit)

  -- the history stays legal
  pub legal-push : (history : List (Entry Q)) (entry : Entry Q) → IsLegal count ceiling history
      → FitsAfter (reverse history) entry → IsLegal count ceiling (history ++ entry ∷ [])
  legal-push history entry legal fit = rw (reverse-append history (entry ∷ [])) (fit, legal)

  -- an entry of a legal history fits those before it
  pub fits-push : (history : List (Entry Q)) (entry : Entry Q) → IsLegal count ceiling (history ++ entry ∷ [])
      → FitsAfter (reverse history) entry
  fits-push history entry legal = (rw (reverse-append history (entry ∷ [])) at legal).0

  legal_earlier : (later earlier : List (Entry Q)) → IsLegalLatest count ceiling (later ++ earlier)
      → IsLegalLatest count ceiling earlier
  legal_earlier [] earlier legal = legal
  legal_earlier (entry ∷ later) earlier legal = legal_earlier later earlier legal.1

  -- if a history is legal, each history with which it begins is legal
  pub legal_prefix : (history later : List (Entry Q)) → IsLegal count ceiling (history ++ later)
      → IsLegal count ceiling history
  legal_prefix history later legal = legal_earlier (reverse later) (reverse history)
      (subst (IsLegalLatest count ceiling) (reverse-append history later) legal)
