-- All requests of a shard, and how many of them come before its base, while a history grows.
use Rattle.std.proofs.Common.{◌≡◌, ◌≢◌, ℕ, ◌+◌, ◌≤◌, false, List, [], ◌∷◌, ◌++◌, length, length-append, refl, sym, ap}
use Rattle.std.proofs.Common.{◌∙◌, subst, arith, ⊎_elim}
use Rattle.std.specs.Prelude.{reverse, ◌==◌}
use Rattle.std.proofs.lemmas.Bool.{cases_eq, ne_eqb}
use Rattle.std.proofs.lemmas.List.{reverse-append, reverse-reverse}
use Rattle.sm_ownership.specs.declared.entry.Ending.{Ending}
use Rattle.sm_ownership.specs.declared.entry.Ending.TheVariants.{Nothing, Request, Checkpoint}
use Rattle.sm_ownership.specs.declared.entry.Entry.{Entry}
use Rattle.sm_ownership.specs.declared.entry.Kind.{Kind}
use Rattle.sm_ownership.specs.declared.entry.Kind.TheVariants.{Change as Changed, Admit, Done}
use Rattle.sm_ownership.specs.declared.record.Record.{Record}
use Rattle.sm_ownership.specs.lemmas.Ceilings.{within_latest}
use Rattle.sm_ownership.specs.lemmas.Growth.{record_at-latest, record_at-latest_other}
use Rattle.sm_ownership.specs.lemmas.Requests.{all_of-push_checkpoint, all_of-push_none, all_of-push_other}
use Rattle.sm_ownership.specs.lemmas.Requests.{all_of-push_some, first_of-push_checkpoint, first_of-push_none}
use Rattle.sm_ownership.specs.lemmas.Requests.{first_of-push_other, first_of-push_some}
use Rattle.sm_ownership.specs.History.{IsLegal, IsLegalLatest, after_kind, all_of, ending_of, first_of, record_at}
use Rattle.sm_ownership.specs.History.{table_of_latest}
use Rattle.sm_rule.specs.Bodies.{all_after, first_after}

module _ {Q : Type 0} (history : List (Entry Q)) (entry : Entry Q) where
  all_pushed : (ending : Ending Q) → ending_of entry.kind ≡ ending
      → all_of (history ++ entry ∷ []) entry.shard ≡ all_after (all_of history entry.shard) ending
  all_pushed Nothing is = all_of-push_none history entry is entry.shard
  all_pushed (Request request) is = all_of-push_some history entry request is
  all_pushed Checkpoint is = all_of-push_checkpoint history entry is

  first_pushed : (ending : Ending Q) → ending_of entry.kind ≡ ending → first_of (history ++ entry ∷ []) entry.shard
      ≡ first_after (first_of history entry.shard) (all_of history entry.shard) ending
  first_pushed Nothing is = first_of-push_none history entry is entry.shard
  first_pushed (Request request) is = first_of-push_some history entry request is
  first_pushed Checkpoint is = first_of-push_checkpoint history entry is

-- below, histories have the latest entry first

-- the requests of its shard after an entry
module _ {Q : Type 0} (entry : Entry Q) (history : List (Entry Q)) where
  pub all_here : all_of (reverse (entry ∷ history)) entry.shard
      ≡ all_after (all_of (reverse history) entry.shard) (ending_of entry.kind)
  all_here = ap (λ entries. all_of entries entry.shard) (reverse-append (entry ∷ []) history)
      ∙ all_pushed (reverse history) entry (ending_of entry.kind) refl

  pub first_here : first_of (reverse (entry ∷ history)) entry.shard ≡ first_after
      (first_of (reverse history) entry.shard) (all_of (reverse history) entry.shard) (ending_of entry.kind)
  first_here = ap (λ entries. first_of entries entry.shard) (reverse-append (entry ∷ []) history)
      ∙ first_pushed (reverse history) entry (ending_of entry.kind) refl

  -- and those of another shard, which it doesn't change
  module _ (shard : ℕ) (apart : shard ≢ entry.shard) where
    differs : (entry.shard == shard) ≡ false
    differs = ne_eqb entry.shard shard (λ equal. apart (sym equal))

    pub all_there : all_of (reverse (entry ∷ history)) shard ≡ all_of (reverse history) shard
    all_there = ap (λ entries. all_of entries shard) (reverse-append (entry ∷ []) history)
        ∙ all_of-push_other (reverse history) entry shard differs

    pub first_there : first_of (reverse (entry ∷ history)) shard ≡ first_of (reverse history) shard
    first_there = ap (λ entries. first_of entries shard) (reverse-append (entry ∷ []) history)
        ∙ first_of-push_other (reverse history) entry shard differs

one_entry : {Q : Type 0} (state : Record) (kind : Kind Q) → (after_kind state kind).generation ≡ state.generation + 1
one_entry state (Changed change) = refl
one_entry state (Admit server mode) = refl
one_entry state (Done ending) = refl

one_request : {Q : Type 0} (all : List Q) (ending : Ending Q) → length (all_after all ending) ≤ length all + 1
one_request all Nothing = omega arith
one_request all (Request request) = let longer = length-append all (request ∷ []) in omega arith
one_request all Checkpoint = omega arith

-- a shard has at most as many requests as entries
module _ {Q : Type 0} (count ceiling : ℕ) where
  abbrev generation : List (Entry Q) → ℕ → ℕ
  generation history shard = (record_at (table_of_latest count ceiling history) shard).generation

  counted : (history : List (Entry Q)) (shard : ℕ) → IsLegalLatest count ceiling history
      → length (all_of (reverse history) shard) ≤ generation history shard
  counted [] shard legal = omega arith
  counted (entry ∷ history) shard legal =
      let before = counted history shard legal.1 in
      ⊎_elim
      (λ (same : shard ≡ entry.shard).
      let at : length (all_of (reverse history) entry.shard) ≤ generation history entry.shard =
      counted history entry.shard legal.1 in
      let entries : generation (entry ∷ history) entry.shard ≡ generation history entry.shard + 1 =
      ap (λ (state : Record). state.generation) (record_at-latest count ceiling entry history legal.0)
      ∙ one_entry _ entry.kind in
      let requests = one_request (all_of (reverse history) entry.shard) (ending_of entry.kind) in
      let grown : length (all_of (reverse (entry ∷ history)) entry.shard)
      ≡ length (all_after (all_of (reverse history) entry.shard) (ending_of entry.kind)) =
      ap length (all_here entry history) in
      let here : length (all_of (reverse (entry ∷ history)) entry.shard) ≤ generation (entry ∷ history) entry.shard =
      omega arith in
      subst (λ k. length (all_of (reverse (entry ∷ history)) k) ≤ generation (entry ∷ history) k) (sym same) here)
      (λ (apart : shard ≢ entry.shard).
      let entries : generation (entry ∷ history) shard ≡ generation history shard =
      ap (λ (state : Record). state.generation)
      (record_at-latest_other count ceiling entry history shard apart legal.0) in
      let requests : length (all_of (reverse (entry ∷ history)) shard) ≡ length (all_of (reverse history) shard) =
      ap length (all_there entry history shard apart) in
      omega arith)
      (cases_eq shard entry.shard)

  -- and so at most as many as the ceiling
  pub all_within : (history : List (Entry Q)) (shard : ℕ) → IsLegal count ceiling history
      → length (all_of history shard) ≤ ceiling
  all_within history shard legal =
      let many = counted (reverse history) shard legal in
      let low = (within_latest count ceiling (reverse history) shard legal).0 in
      let turned : length (all_of (reverse (reverse history)) shard) ≡ length (all_of history shard) =
      ap (λ entries. length (all_of entries shard)) (reverse-reverse history) in
      omega arith
