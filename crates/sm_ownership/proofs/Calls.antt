-- The table refuses exactly the entries that legality doesn't allow, and after an entry it is the table of the longer
-- history.
use Rattle.std.proofs.Common.{◌≡◌, ◌≢◌, ℕ, ◌<◌, Bool, true, false, not, ◌&&◌, List, [], ◌∷◌, ◌++◌, length, refl, sym}
use Rattle.std.proofs.Common.{ap, ◌∙◌, arith}
use Rattle.std.specs.Prelude.{Option, Some, None, ◌↔◌, ◌==◌, is_none, nat_lt, reverse, if◌then◌else◌}
use Rattle.std.specs.Option.{option_or}
use Rattle.std.proofs.lemmas.Bool.{and_from, and_parts, lt-ltb, ne_eqb}
use Rattle.sm_ownership.specs.declared.change.Change.{Change}
use Rattle.sm_ownership.specs.declared.change_fault.ChangeFault.{ChangeFault}
use Rattle.sm_ownership.specs.declared.entry.Ending.{Ending}
use Rattle.sm_ownership.specs.declared.entry.Entry.{Entry}
use Rattle.sm_ownership.specs.declared.entry.Kind.TheVariants.{Change as Changed, Admit, Done}
use Rattle.sm_ownership.specs.declared.mode.Mode.{Mode}
use Rattle.sm_ownership.specs.declared.record.Record.{Record}
use Rattle.sm_ownership.specs.lemmas.Faults.{admit_fault-none, change_fits-no_fault}
use Rattle.sm_ownership.specs.lemmas.Growth.{fits-push, legal-push, length-table_of, table_of-push}
use Rattle.sm_ownership.specs.History.{IsLegal, acts_as, after_kind, fits, is_admission_of, latest_of, record_at}
use Rattle.sm_ownership.specs.History.{table_of}
use Rattle.sm_ownership.specs.Rules.{admit_fault, phase_fault}
use Rattle.sm_ownership.specs.Tables.{TableView, apply_fault, record_fault, table_view, with_record}

none_is_true : {X : Type 0} (option : Option X) → (option ≡ None) ↔ (is_none option ≡ true)
none_is_true None = (λ is. refl, λ is. refl)
none_is_true (Some x) = (λ is. absurd cc, λ is. absurd cc)

none_of_change : (there : Bool) (x : ChangeFault) (phase of_record : Option ChangeFault)
    → (there && (is_none phase && is_none of_record))
    ≡ is_none (if not there then Some x else option_or phase of_record)
none_of_change true x None of_record = refl
none_of_change true x (Some phase) of_record = refl
none_of_change false x phase of_record = refl

module _ {Q : Type 0} (count ceiling : ℕ) (history : List (Entry Q)) (legal : IsLegal count ceiling history) where
  abbrev longer : Entry Q → List (Entry Q)
  longer entry = history ++ entry ∷ []

  abbrev fit : Entry Q → Bool
  fit entry = fits ceiling (reverse history) (table_of count ceiling history) entry

  -- an entry comes next if and only if it fits
  next : (entry : Entry Q) → IsLegal count ceiling (longer entry) ↔ (fit entry ≡ true)
  next entry =
      (λ after. fits-push count ceiling history entry after, λ is. legal-push count ceiling history entry legal is)

  next_unless : {X : Type 0} (entry : Entry Q) (fault : Option X) → fit entry ≡ is_none fault
      → IsLegal count ceiling (longer entry) ↔ (fault ≡ None)
  next_unless entry fault is = (
    λ after. (none_is_true fault).1 (sym is ∙ (next entry).0 after),
    λ none. (next entry).1 (is ∙ (none_is_true fault).0 none),
  )

  -- the table after it
  pub table_next : (entry : Entry Q) → IsLegal count ceiling (longer entry)
      → table_view count ceiling (longer entry) ≡ with_record (table_view count ceiling history) entry.shard
      (after_kind (record_at (table_of count ceiling history) entry.shard) entry.kind)
  table_next entry after =
      let made : List Record → TableView = λ records. record { records = records; ceiling = ceiling } in
      ap made (table_of-push count ceiling history entry (fits-push count ceiling history entry after))

  there : (shard : ℕ) → shard < count → nat_lt shard (length (table_of count ceiling history)) ≡ true
  there shard within = let long = length-table_of count ceiling history in lt-ltb _ _ (omega arith)

  pub change_next : (shard : ℕ) (change : Change)
      → IsLegal count ceiling (longer (record { actor = 0; shard = shard; kind = Changed change })) ↔
      (apply_fault (table_view count ceiling history) shard change ≡ None)
  change_next shard change =
      let state = record_at (table_of count ceiling history) shard in
      next_unless (record { actor = 0; shard = shard; kind = Changed change })
      (apply_fault (table_view count ceiling history) shard change)
      (ap (λ allowed. nat_lt shard (length (table_of count ceiling history)) && allowed)
      (change_fits-no_fault ceiling state change)
      ∙ none_of_change (nat_lt shard (length (table_of count ceiling history))) _ (phase_fault state.stand change)
      (record_fault ceiling state))

  pub admission_next : (actor shard server : ℕ) (mode : Mode) → shard < count → actor ≢ 0
      → acts_as (reverse history) actor server ≡ true
      → IsLegal count ceiling (longer (record { actor = actor; shard = shard; kind = Admit server mode })) ↔
      (admit_fault ceiling (record_at (table_of count ceiling history) shard) server mode ≡ None)
  admission_next actor shard server mode within other alone =
      let state = record_at (table_of count ceiling history) shard in
      let outside : (actor == 0) ≡ false = ne_eqb actor 0 other in
      next_unless (record { actor = actor; shard = shard; kind = Admit server mode })
      (admit_fault ceiling state server mode)
      (rw (there shard within, outside, alone) (sym (admit_fault-none ceiling state server mode)))

  pub end_next : (actor shard : ℕ) (ending : Ending Q) → shard < count
      → IsLegal count ceiling (longer (record { actor = actor; shard = shard; kind = Done ending })) ↔
      (((record_at (table_of count ceiling history) shard).admitted ≡ true)
      × (is_admission_of actor (latest_of (reverse history) shard) ≡ true))
  end_next actor shard ending within =
      let entry : Entry Q = record { actor = actor; shard = shard; kind = Done ending } in (
        λ after. and_parts _ _ (and_parts _ _ ((next entry).0 after)).1,
        λ both. (next entry).1 (and_from _ _ (there shard within) (and_from _ _ both.0 both.1)),
      )
