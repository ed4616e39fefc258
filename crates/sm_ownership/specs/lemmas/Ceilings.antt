-- No generation passes the ceiling.
use Rattle.std.proofs.Common.{◌≡◌, ◌≢◌, ℕ, ◌<◌, ◌≤◌, ◌+◌, true, not, List, [], ◌∷◌, sym, subst, ◌∙◌, arith, ⊎_elim}
use Rattle.std.specs.Prelude.{is_some, nat_le, nat_lt, reverse, ◌==◌}
use Rattle.std.proofs.lemmas.Bool.{true≢false, and_parts, cases_eq, leb-true, ltb-true, not-true}
use Rattle.sm_ownership.specs.declared.entry.Entry.{Entry}
use Rattle.sm_ownership.specs.declared.entry.Kind.{Kind}
use Rattle.sm_ownership.specs.declared.entry.Kind.TheVariants.{Change as Changed, Admit, Done}
use Rattle.sm_ownership.specs.declared.record.Record.{Record}
use Rattle.sm_ownership.specs.Rules.{stand_after}
use Rattle.sm_ownership.specs.History.{record_at, after_kind, acts_as, kind_fits, table_of, table_of_latest, IsLegal}
use Rattle.sm_ownership.specs.History.{IsLegalLatest}
use Rattle.sm_ownership.specs.lemmas.Growth.{record_at-empty, record_at-latest, record_at-latest_other}

-- the generation is at most the ceiling, and below it while a server is admitted
abbrev pub IsWithin : ℕ → Record → Type 0
IsWithin ceiling state = (state.generation ≤ ceiling) × (state.admitted ≡ true → state.generation < ceiling)

within_kind : {Q : Type 0} (ceiling : ℕ) (earlier : List (Entry Q)) (state : Record) (actor shard : ℕ) (kind : Kind Q)
    → kind_fits ceiling earlier state actor shard kind ≡ true → IsWithin ceiling state
    → IsWithin ceiling (after_kind state kind)
within_kind ceiling earlier state actor shard (Changed change) fit within =
    let free = and_parts (not state.admitted) _ (and_parts (actor == 0) _ fit).1 in
    let below = ltb-true _ _
    (and_parts (nat_lt state.generation ceiling) (is_some (stand_after state.stand change)) free.1).0 in
    (omega arith, λ busy. absurd (true≢false (sym busy ∙ not-true state.admitted free.0)))
within_kind ceiling earlier state actor shard (Admit server mode) fit within =
    let alone = and_parts (acts_as earlier actor server) _ (and_parts (not (actor == 0)) _ fit).1 in
    let room = leb-true _ _
    (and_parts (nat_le (state.generation + 2) ceiling) _ (and_parts (not state.admitted) _ alone.1).1).0 in
    (omega arith, λ busy. omega arith)
within_kind ceiling earlier state actor shard (Done ending) fit within =
    let below = within.1 (and_parts state.admitted _ fit).0 in
    (omega arith, λ busy. absurd (true≢false (sym busy)))

module _ {Q : Type 0} (count ceiling : ℕ) where
  -- the latest entry first
  pub within_latest : (earlier : List (Entry Q)) (shard : ℕ) → IsLegalLatest count ceiling earlier
      → IsWithin ceiling (record_at (table_of_latest count ceiling earlier) shard)
  within_latest [] shard legal =
      subst (IsWithin ceiling) (sym (record_at-empty count shard)) (omega arith, λ busy. absurd (true≢false (sym busy)))
  within_latest (entry ∷ earlier) shard legal =
      ⊎_elim
      (λ (same : shard ≡ entry.shard).
      let before = within_latest earlier entry.shard legal.1 in
      let now = within_kind ceiling earlier (record_at (table_of_latest count ceiling earlier) entry.shard) entry.actor
      entry.shard entry.kind (and_parts _ _ legal.0).1 before in
      let here : IsWithin ceiling (record_at (table_of_latest count ceiling (entry ∷ earlier)) entry.shard) =
      subst (IsWithin ceiling) (sym (record_at-latest count ceiling entry earlier legal.0)) now in
      subst (λ k. IsWithin ceiling (record_at (table_of_latest count ceiling (entry ∷ earlier)) k)) (sym same) here)
      (λ (apart : shard ≢ entry.shard). subst (IsWithin ceiling) (sym (record_at-latest_other count ceiling entry
      earlier shard apart legal.0)) (within_latest earlier shard legal.1))
      (cases_eq shard entry.shard)

  pub within_ceiling : (history : List (Entry Q)) (shard : ℕ) → IsLegal count ceiling history
      → IsWithin ceiling (record_at (table_of count ceiling history) shard)
  within_ceiling history shard legal = within_latest (reverse history) shard legal
