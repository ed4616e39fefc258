-- Facts that last while a history grows: a shard has the same record or a greater generation, its stand stays without
-- the control, and an admission stays until its actor ends it.
use Rattle.std.proofs.Common.{◌≡◌, ◌≢◌, ℕ, ◌<◌, ◌+◌, Bool, true, false, not, List, [], ◌∷◌, ◌++◌, refl, sym, ap, subst}
use Rattle.std.proofs.Common.{◌∙◌, arith, ◌⊎◌, ⊎_elim, inl, inr}
use Rattle.std.specs.Prelude.{Option, Some, None, reverse, ◌==◌, ◌||◌}
use Rattle.std.proofs.lemmas.Bool.{true≢false, and_from, and_parts, cases_eq, eqb-true, ne_eqb, not-true}
use Rattle.std.proofs.lemmas.List.{reverse-append}
use Rattle.std.proofs.lemmas.List.Elements.{All-nil, All-cons, All-head, All-tail, All-append}
use Rattle.sm_ownership.specs.declared.entry.Entry.{Entry}
use Rattle.sm_ownership.specs.declared.entry.Kind.{Kind}
use Rattle.sm_ownership.specs.declared.entry.Kind.TheVariants.{Change as Changed, Admit, Done}
use Rattle.sm_ownership.specs.declared.record.Record.{Record}
use Rattle.sm_ownership.specs.lemmas.Growth.{record_at-latest, record_at-latest_other}
use Rattle.sm_ownership.specs.History.{IsSameOrLater, NoneBy, record_at, after_kind, admits_only, acts_as, latest_of}
use Rattle.sm_ownership.specs.History.{is_admit, is_admission_of, fits, kind_fits, table_of, table_of_latest, IsLegal}
use Rattle.sm_ownership.specs.History.{IsLegalLatest}

or_else : (one : Bool) → (one || true) ≡ true
or_else true = refl
or_else false = refl

module _ {Q : Type 0} where
  pub NoneBy-reverse : (actor : ℕ) (entries : List (Entry Q)) → NoneBy actor entries → NoneBy actor (reverse entries)
  NoneBy-reverse actor [] none = All-nil (λ entry. entry.actor ≢ actor)
  NoneBy-reverse actor (entry ∷ entries) none =
      let Is : Entry Q → Type 0 = λ one. one.actor ≢ actor in
      let last = All-cons Is entry [] (All-head Is entry entries none) (All-nil Is) in
      let both = All-append Is (reverse entries) (entry ∷ [])
      (NoneBy-reverse actor entries (All-tail Is entry entries none)) last in
      subst (NoneBy actor) (sym (reverse-append (entry ∷ []) entries)) both

  -- an actor without entries may have any server
  pub acts_as-none : (earlier : List (Entry Q)) (actor server : ℕ) → NoneBy actor earlier
      → acts_as earlier actor server ≡ true
  acts_as-none [] actor server none = refl
  acts_as-none (entry ∷ earlier) actor server none =
      let Is : Entry Q → Type 0 = λ one. one.actor ≢ actor in
      let other : (entry.actor == actor) ≡ false = ne_eqb entry.actor actor (All-head Is entry earlier none) in
      rw other (acts_as-none earlier actor server (All-tail Is entry earlier none))

  -- an entry of another actor doesn't change an actor's admissions
  pub acts_as-other : (entry : Entry Q) (earlier : List (Entry Q)) (actor server : ℕ) → entry.actor ≢ actor
      → acts_as earlier actor server ≡ true → acts_as (entry ∷ earlier) actor server ≡ true
  acts_as-other entry earlier actor server apart acts = let other : (entry.actor == actor) ≡ false =
      ne_eqb entry.actor actor apart in rw other acts

  -- an actor's own entry doesn't either, if it admits the actor's server, or nobody
  pub acts_as-own : (entry : Entry Q) (earlier : List (Entry Q)) (actor server : ℕ) → admits_only server entry.kind
      ≡ true → acts_as earlier actor server ≡ true → acts_as (entry ∷ earlier) actor server ≡ true
  acts_as-own entry earlier actor server only acts =
      let here : (not (entry.actor == actor) || admits_only server entry.kind) ≡ true =
      rw only (or_else (not (entry.actor == actor))) in
      and_from _ _ here acts

  -- an entry of another shard doesn't change the latest entry of a shard
  pub latest_of-other : (entry : Entry Q) (earlier : List (Entry Q)) (shard : ℕ) → shard ≢ entry.shard
      → latest_of (entry ∷ earlier) shard ≡ latest_of earlier shard
  latest_of-other entry earlier shard apart = let other : (entry.shard == shard) ≡ false =
      ne_eqb entry.shard shard (λ is. apart (sym is)) in rw other refl

  one_actor : (latest : Option (Entry Q)) (actor other : ℕ) → is_admission_of actor latest ≡ true
      → is_admission_of other latest ≡ true → actor ≡ other
  one_actor None actor other first second = absurd (true≢false (sym first))
  one_actor (Some entry) actor other first second =
      sym (eqb-true entry.actor actor (and_parts (entry.actor == actor) (is_admit entry.kind) first).0)
      ∙ eqb-true entry.actor other (and_parts (entry.actor == other) (is_admit entry.kind) second).0

  -- only the end of the admission, by its actor, fits an admitted record
  fits_admitted : (ceiling : ℕ) (earlier : List (Entry Q)) (state : Record) (actor shard : ℕ) (kind : Kind Q)
      → kind_fits ceiling earlier state actor shard kind ≡ true → state.admitted ≡ true
      → is_admission_of actor (latest_of earlier shard) ≡ true
  fits_admitted ceiling earlier state actor shard (Changed change) fit busy =
      absurd (true≢false
      (sym busy ∙ not-true state.admitted (and_parts (not state.admitted) _ (and_parts (actor == 0) _ fit).1).0))
  fits_admitted ceiling earlier state actor shard (Admit server mode) fit busy =
      let alone = and_parts (acts_as earlier actor server) _ (and_parts (not (actor == 0)) _ fit).1 in
      absurd (true≢false (sym busy ∙ not-true state.admitted (and_parts (not state.admitted) _ alone.1).0))
  fits_admitted ceiling earlier state actor shard (Done ending) fit busy = (and_parts state.admitted _ fit).1

  one_more : (state : Record) (kind : Kind Q) → (after_kind state kind).generation ≡ state.generation + 1
  one_more state (Changed change) = refl
  one_more state (Admit server mode) = refl
  one_more state (Done ending) = refl

  stand_without_control : (ceiling : ℕ) (earlier : List (Entry Q)) (state : Record) (actor shard : ℕ) (kind : Kind Q)
      → actor ≢ 0 → kind_fits ceiling earlier state actor shard kind ≡ true
      → (after_kind state kind).stand ≡ state.stand
  stand_without_control ceiling earlier state actor shard (Changed change) other fit =
      absurd (other (eqb-true actor 0 (and_parts (actor == 0) _ fit).0))
  stand_without_control ceiling earlier state actor shard (Admit server mode) other fit = refl
  stand_without_control ceiling earlier state actor shard (Done ending) other fit = refl

-- below, histories have the latest entry first
module _ {Q : Type 0} (count ceiling : ℕ) where
  abbrev table : List (Entry Q) → List Record
  table earlier = table_of_latest count ceiling earlier

  -- an entry that fits changes only the record of its shard
  pub next_record : (entry : Entry Q) (earlier : List (Entry Q)) (shard : ℕ)
      → fits ceiling earlier (table earlier) entry ≡ true
      → ((shard ≢ entry.shard) × (record_at (table (entry ∷ earlier)) shard ≡ record_at (table earlier) shard))
      ⊎ ((shard ≡ entry.shard)
      × (record_at (table (entry ∷ earlier)) shard ≡ after_kind (record_at (table earlier) shard) entry.kind))
  next_record entry earlier shard fit =
      ⊎_elim
      (λ (same : shard ≡ entry.shard). inr (
        same,
        subst (λ k. record_at (table (entry ∷ earlier)) k ≡ after_kind
            (record_at (table earlier) k) entry.kind) (sym same) (record_at-latest count ceiling entry earlier fit),
      ))
      (λ (apart : shard ≢ entry.shard). inl (apart, record_at-latest_other count ceiling entry earlier shard apart fit))
      (cases_eq shard entry.shard)

  -- if an entry fits while a shard is admitted by another actor, it is of another shard
  pub admission_excludes : (entry : Entry Q) (earlier : List (Entry Q)) (shard actor : ℕ) → fits ceiling earlier
      (table earlier) entry ≡ true → entry.actor ≢ actor → (record_at (table earlier) shard).admitted ≡ true
      → is_admission_of actor (latest_of earlier shard) ≡ true → shard ≢ entry.shard
  admission_excludes entry earlier shard actor fit apart busy admits = λ same.
      let here = subst (λ k. (record_at (table earlier) k).admitted ≡ true) same busy in
      let its = fits_admitted ceiling earlier (record_at (table earlier) entry.shard) entry.actor entry.shard entry.kind
      (and_parts _ _ fit).1 here in
      apart (one_actor (latest_of earlier entry.shard) entry.actor actor its
      (subst (λ k. is_admission_of actor (latest_of earlier k) ≡ true) same admits))

  later_entry : (entry : Entry Q) (earlier : List (Entry Q)) (shard : ℕ) (before : Record)
      → fits ceiling earlier (table earlier) entry ≡ true → IsSameOrLater before (record_at (table earlier) shard)
      → IsSameOrLater before (record_at (table (entry ∷ earlier)) shard)
  later_entry entry earlier shard before fit grown =
      let state = record_at (table earlier) shard in
      let after = record_at (table (entry ∷ earlier)) shard in
      ⊎_elim
      (λ (other : (shard ≢ entry.shard) × (after ≡ state)). subst (IsSameOrLater before) (sym other.1) grown)
      (λ (here : (shard ≡ entry.shard) × (after ≡ after_kind state entry.kind)).
      let up : after.generation ≡ state.generation + 1 = ap (λ r. r.generation) here.1 ∙ one_more state entry.kind in
      inr (⊎_elim
      (λ (same : state ≡ before). let at : state.generation ≡ before.generation = ap (λ r. r.generation) same in
      omega arith)
      (λ (less : before.generation < state.generation). omega arith)
      grown))
      (next_record entry earlier shard fit)

  later_latest : (later earlier : List (Entry Q)) (shard : ℕ) → IsLegalLatest count ceiling (later ++ earlier)
      → IsSameOrLater (record_at (table earlier) shard) (record_at (table (later ++ earlier)) shard)
  later_latest [] earlier shard legal = inl refl
  later_latest (entry ∷ later) earlier shard legal =
      later_entry entry (later ++ earlier) shard (record_at (table earlier) shard) legal.0
      (later_latest later earlier shard legal.1)

  stand_latest : (later earlier : List (Entry Q)) (shard : ℕ) → IsLegalLatest count ceiling (later ++ earlier)
      → NoneBy 0 later → (record_at (table (later ++ earlier)) shard).stand ≡ (record_at (table earlier) shard).stand
  stand_latest [] earlier shard legal none = refl
  stand_latest (entry ∷ later) earlier shard legal none =
      let Is : Entry Q → Type 0 = λ one. one.actor ≢ 0 in
      let before = table (later ++ earlier) in
      let after = record_at (table (entry ∷ (later ++ earlier))) shard in
      let stays = stand_latest later earlier shard legal.1 (All-tail Is entry later none) in
      let fit = (and_parts _ _ legal.0).1 in
      ⊎_elim
      (λ (other : (shard ≢ entry.shard) × (after ≡ record_at before shard)). ap (λ r. r.stand) other.1 ∙ stays)
      (λ (here : (shard ≡ entry.shard) × (after ≡ after_kind (record_at before shard) entry.kind)).
      let moved : (after_kind (record_at before shard) entry.kind).stand ≡ (record_at before shard).stand =
      stand_without_control ceiling (later ++ earlier) (record_at before shard) entry.actor entry.shard entry.kind
      (All-head Is entry later none) (subst (λ k. kind_fits ceiling (later ++ earlier)
      (record_at before k) entry.actor entry.shard entry.kind ≡ true) (sym here.0) fit) in
      ap (λ r. r.stand) here.1 ∙ (moved ∙ stays))
      (next_record entry (later ++ earlier) shard legal.0)

  -- at a later point of a legal history a shard has the same record, or one of a greater generation
  pub same_or_later : (history later : List (Entry Q)) (shard : ℕ) → IsLegal count ceiling (history ++ later)
      → IsSameOrLater (record_at (table_of count ceiling history) shard)
      (record_at (table_of count ceiling (history ++ later)) shard)
  same_or_later history later shard legal =
      let turned = reverse-append history later in
      let legal' = subst (IsLegalLatest count ceiling) turned legal in
      subst (λ entries. IsSameOrLater (record_at (table_of count ceiling history) shard)
      (record_at (table entries) shard)) (sym turned) (later_latest (reverse later) (reverse history) shard legal')

  -- if the control has no entries, every stand stays
  pub stand_stays : (history later : List (Entry Q)) (shard : ℕ) → IsLegal count ceiling (history ++ later)
      → NoneBy 0 later → (record_at (table_of count ceiling (history ++ later)) shard).stand
      ≡ (record_at (table_of count ceiling history) shard).stand
  stand_stays history later shard legal none =
      let turned = reverse-append history later in
      let legal' = subst (IsLegalLatest count ceiling) turned legal in
      ap (λ entries. (record_at (table entries) shard).stand) turned
      ∙ stand_latest (reverse later) (reverse history) shard legal' (NoneBy-reverse 0 later none)
