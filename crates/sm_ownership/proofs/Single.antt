-- A shard has at most one admission, and it is the executor's.
use Rattle.std.proofs.Common.{◌≡◌, ◌≢◌, ℕ, ◌≤◌, ◌+◌, Bool, true, false, not, List, [], ◌∷◌, length, refl, sym, ap}
use Rattle.std.proofs.Common.{subst, ◌∙◌, arith, ⊎_elim}
use Rattle.std.specs.Prelude.{Option, None, Some, All, filter, nat_le, reverse, ◌==◌, if◌then◌else◌}
use Rattle.std.proofs.lemmas.Bool.{true≢false, cases_eq, and_parts, not-true, eq-eqb, eqb-true}
use Rattle.std.proofs.lemmas.Bool.Decides.{nat_tests}
use Rattle.std.proofs.lemmas.List.Elements.{All-nil, All-cons}
use Rattle.sm_ranges.specs.declared.stand.Stand.{Stand}
use Rattle.sm_ownership.specs.declared.entry.Entry.{Entry}
use Rattle.sm_ownership.specs.declared.entry.Kind.{Kind}
use Rattle.sm_ownership.specs.declared.entry.Kind.TheVariants.{Change as Changed, Admit, Done}
use Rattle.sm_ownership.specs.declared.mode.Mode.{Mode}
use Rattle.sm_ownership.specs.declared.record.Record.{Record}
use Rattle.sm_ownership.specs.Rules.{executor, executor_of, accepts, accepts_at, is_early, is_server}
use Rattle.sm_ownership.specs.History.{record_at, after_kind, acts_as, latest_of, is_admit, is_admission_of, fits}
use Rattle.sm_ownership.specs.History.{kind_fits, table_of, table_of_latest, IsLegal, IsLegalLatest, without_ended}
use Rattle.sm_ownership.specs.History.{open_admissions, open_admissions_latest}
use Rattle.sm_ownership.specs.lemmas.Growth.{record_at-empty, record_at-latest, record_at-latest_other}

-- the entry admits the executor of the record
abbrev pub IsOfExecutor : {Q : Type 0} → Record → Entry Q → Type 0
IsOfExecutor state entry =
    (server : ℕ) × (mode : Mode) × (entry.kind ≡ Admit server mode) × (executor state ≡ Some server)

-- at an idle record no admission stands, and at an admitted one only that of the shard's latest entry
abbrev IsSingle : {Q : Type 0} → List (Entry Q) → ℕ → Record → List (Entry Q) → Type 0
IsSingle earlier shard state [] = state.admitted ≡ false
IsSingle earlier shard state (entry ∷ []) =
    (state.admitted ≡ true) × (latest_of earlier shard ≡ Some entry) × IsOfExecutor state entry
IsSingle earlier shard state (entry ∷ other ∷ rest) = ⊥

one_or_none : (n : ℕ) (b : Bool) → n ≡ (if b then 1 else 0) → n ≤ 1
one_or_none n true is = omega arith
one_or_none n false is = omega arith

named_server : (named : Option ℕ) (server : ℕ) → is_server named server ≡ true → named ≡ Some server
named_server None server is = absurd (true≢false (sym is))
named_server (Some one) server is = ap Some (eqb-true one server is)

executes : (stand : Stand) (server : ℕ) (mode : Mode) → accepts_at stand server mode ≡ true
    → executor_of stand ≡ Some server
executes stand server mode accepted =
    named_server (executor_of stand) server
    (and_parts (is_server (executor_of stand) server) (not (is_early stand mode)) accepted).0

module _ {Q : Type 0} where
  other_shard : (entry : Entry Q) (earlier : List (Entry Q)) (shard : ℕ) (state : Record) (standing : List (Entry Q))
      → (entry.shard == shard) ≡ false → IsSingle earlier shard state standing
      → IsSingle (entry ∷ earlier) shard state standing
  other_shard entry earlier shard state [] differs single = single
  other_shard entry earlier shard state (one ∷ []) differs single = (single.0, rw differs single.1, single.2)
  other_shard entry earlier shard state (one ∷ two ∷ rest) differs single = single

  none_at_idle : (earlier : List (Entry Q)) (shard : ℕ) (state : Record) (standing : List (Entry Q))
      → state.admitted ≡ false → IsSingle earlier shard state standing → standing ≡ []
  none_at_idle earlier shard state [] idle single = refl
  none_at_idle earlier shard state (one ∷ []) idle single = absurd (true≢false (sym single.0 ∙ idle))
  none_at_idle earlier shard state (one ∷ two ∷ rest) idle single = absurd single

  ended_alone : (earlier : List (Entry Q)) (shard actor : ℕ) (state : Record) (standing : List (Entry Q))
      → is_admission_of actor (latest_of earlier shard) ≡ true → IsSingle earlier shard state standing
      → filter (λ admission. not (admission.actor == actor)) standing ≡ []
  ended_alone earlier shard actor state [] by_actor single = refl
  ended_alone earlier shard actor state (one ∷ []) by_actor single =
      let its : is_admission_of actor (Some one) ≡ true =
      subst (λ latest. is_admission_of actor latest ≡ true) single.1 by_actor in
      let yes : (one.actor == actor) ≡ true = (and_parts (one.actor == actor) (is_admit one.kind) its).0 in
      rw yes refl
  ended_alone earlier shard actor state (one ∷ two ∷ rest) by_actor single = absurd single

  -- the shard's own entry, by its kind
  own_shard : (ceiling : ℕ) (entry : Entry Q) (earlier : List (Entry Q)) (state : Record) (standing : List (Entry Q))
      (kind : Kind Q) → entry.kind ≡ kind → kind_fits ceiling earlier state entry.actor entry.shard kind ≡ true
      → IsSingle earlier entry.shard state standing
      → IsSingle (entry ∷ earlier) entry.shard (after_kind state kind) (without_ended entry kind standing)
  own_shard ceiling entry earlier state standing (Changed change) is fit single =
      let idle = not-true state.admitted (and_parts (not state.admitted) _ (and_parts (entry.actor == 0) _ fit).1).0 in
      rw (none_at_idle earlier entry.shard state standing idle single) idle
  own_shard ceiling entry earlier state standing (Admit server mode) is fit single =
      let rest = (and_parts (acts_as earlier entry.actor server) _ (and_parts (not (entry.actor == 0)) _ fit).1).1 in
      let free = and_parts (not state.admitted) _ rest in
      let accepted : accepts state server mode ≡ true =
      (and_parts (nat_le (state.generation + 2) ceiling) _ free.1).1 in
      let same : (entry.shard == entry.shard) ≡ true = eq-eqb entry.shard entry.shard refl in
      rw (none_at_idle earlier entry.shard state standing (not-true state.admitted free.0) single)
      (refl, rw same refl, (server, mode, is, executes state.stand server mode accepted))
  own_shard ceiling entry earlier state standing (Done ending) is fit single =
      rw (ended_alone earlier entry.shard entry.actor state standing (and_parts state.admitted _ fit).1 single) refl

  one_where_admitted : (earlier : List (Entry Q)) (shard : ℕ) (state : Record) (standing : List (Entry Q))
      → IsSingle earlier shard state standing → length standing ≡ (if state.admitted then 1 else 0)
  one_where_admitted earlier shard state [] single = rw single refl
  one_where_admitted earlier shard state (entry ∷ []) single = rw single.0 refl
  one_where_admitted earlier shard state (entry ∷ other ∷ rest) single = absurd single

  of_executor : (earlier : List (Entry Q)) (shard : ℕ) (state : Record) (standing : List (Entry Q))
      → IsSingle earlier shard state standing → All (IsOfExecutor state) standing
  of_executor earlier shard state [] single = All-nil (IsOfExecutor state)
  of_executor earlier shard state (entry ∷ []) single =
      All-cons (IsOfExecutor state) entry [] single.2 (All-nil (IsOfExecutor state))
  of_executor earlier shard state (entry ∷ other ∷ rest) single = absurd single

module _ {Q : Type 0} (count ceiling : ℕ) where
  single_own : (entry : Entry Q) (earlier : List (Entry Q)) (shard : ℕ)
      → fits ceiling earlier (table_of_latest count ceiling earlier) entry ≡ true → ((k : ℕ) → IsSingle earlier k
      (record_at (table_of_latest count ceiling earlier) k) (open_admissions_latest earlier k)) → shard ≡ entry.shard
      → IsSingle (entry ∷ earlier) shard (record_at (table_of_latest count ceiling (entry ∷ earlier)) shard)
      (open_admissions_latest (entry ∷ earlier) shard)
  single_own entry earlier shard fit before same =
      let own = own_shard ceiling entry earlier (record_at (table_of_latest count ceiling earlier) entry.shard)
      (open_admissions_latest earlier entry.shard) entry.kind refl (and_parts _ _ fit).1 (before entry.shard) in
      let its : (entry.shard == entry.shard) ≡ true = eq-eqb entry.shard entry.shard refl in
      let here : IsSingle (entry ∷ earlier) entry.shard (record_at (table_of_latest count ceiling (entry ∷ earlier))
      entry.shard) (open_admissions_latest (entry ∷ earlier) entry.shard) =
      rw its (subst (λ state. IsSingle (entry ∷ earlier) entry.shard state
      (without_ended entry entry.kind (open_admissions_latest earlier entry.shard)))
      (sym (record_at-latest count ceiling entry earlier fit)) own) in
      subst (λ k. IsSingle (entry ∷ earlier) k (record_at (table_of_latest count ceiling (entry ∷ earlier)) k)
      (open_admissions_latest (entry ∷ earlier) k)) (sym same) here

  single_other : (entry : Entry Q) (earlier : List (Entry Q)) (shard : ℕ)
      → fits ceiling earlier (table_of_latest count ceiling earlier) entry ≡ true → ((k : ℕ) → IsSingle earlier k
      (record_at (table_of_latest count ceiling earlier) k) (open_admissions_latest earlier k)) → shard ≢ entry.shard
      → IsSingle (entry ∷ earlier) shard (record_at (table_of_latest count ceiling (entry ∷ earlier)) shard)
      (open_admissions_latest (entry ∷ earlier) shard)
  single_other entry earlier shard fit before apart =
      let differs : (entry.shard == shard) ≡ false = grind (arith, nat_tests) in
      rw differs (subst (λ state. IsSingle (entry ∷ earlier) shard state (open_admissions_latest earlier shard))
      (sym (record_at-latest_other count ceiling entry earlier shard apart fit))
      (other_shard entry earlier shard (record_at (table_of_latest count ceiling earlier) shard)
      (open_admissions_latest earlier shard) differs (before shard)))

  single : (earlier : List (Entry Q)) → IsLegalLatest count ceiling earlier → (shard : ℕ) → IsSingle earlier shard
      (record_at (table_of_latest count ceiling earlier) shard) (open_admissions_latest earlier shard)
  single [] legal shard = ap (λ state. state.admitted) (record_at-empty count shard)
  single (entry ∷ earlier) legal shard =
      ⊎_elim (single_own entry earlier shard legal.0 (single earlier legal.1))
      (single_other entry earlier shard legal.0 (single earlier legal.1)) (cases_eq shard entry.shard)

  -- if a shard's record is admitted, one admission of the shard stands, and otherwise none
  pub one_admission : (history : List (Entry Q)) (shard : ℕ) → IsLegal count ceiling history → length
      (open_admissions history shard) ≡ (if (record_at (table_of count ceiling history) shard).admitted then 1 else 0)
  one_admission history shard legal =
      one_where_admitted (reverse history) shard (record_at (table_of count ceiling history) shard)
      (open_admissions history shard) (single (reverse history) legal shard)

  pub at_most_one : (history : List (Entry Q)) (shard : ℕ) → IsLegal count ceiling history
      → length (open_admissions history shard) ≤ 1
  at_most_one history shard legal = one_or_none (length (open_admissions history shard))
      (record_at (table_of count ceiling history) shard).admitted (one_admission history shard legal)

  -- and it is the executor's
  pub admitted_executor : (history : List (Entry Q)) (shard : ℕ) → IsLegal count ceiling history
      → All (IsOfExecutor (record_at (table_of count ceiling history) shard)) (open_admissions history shard)
  admitted_executor history shard legal =
      of_executor (reverse history) shard (record_at (table_of count ceiling history) shard)
      (open_admissions history shard) (single (reverse history) legal shard)
