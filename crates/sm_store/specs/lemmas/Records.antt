-- A shard's record after a right transaction: it changes as the rule says, and the change has waited, or it stays.
use Rattle.std.proofs.Common.{◌≡◌, ℕ, ◌+◌, ◌<◌, true, false, List, [], ◌∷◌, ◌++◌, refl, sym, ap}
use Rattle.std.proofs.Common.{subst, ◌∙◌, arith, ⊎_elim, inl, inr}
use Rattle.std.specs.Prelude.{Bool, IsTrue, ◌==◌, ◌⊎◌, Option, Some, None, is_some, nat_lt, not}
use Rattle.std.proofs.lemmas.Bool.{and_parts, cases_Bool, cond-true, cond-false, eqb-true, false≢true}
use Rattle.sm_ranges.specs.declared.stand.Stand.{Stand}
use Rattle.sm_ownership.specs.declared.change.Change.{Change}
use Rattle.sm_ownership.specs.declared.record.Record.{Record}
use Rattle.sm_ownership.specs.History.{after_change, change_fits}
use Rattle.sm_ownership.specs.Rules.{stand_after}
use Rattle.sm_store.specs.Store.{Transaction, placement_of, stored_record}
use Rattle.sm_store.specs.Deeds.{AreRight, Charter, Deed, Electing, Expiring, Changing, Restarting, Settling, Executing}
use Rattle.sm_store.specs.Deeds.{Resettling}
use Rattle.sm_store.specs.Deeds.{Basing, Naming, Clearing, Following, Checking, Foreign, IsRight, WasRight, done_at}
use Rattle.sm_store.specs.Waits.{HasWaited}

-- a transaction changes the shard's record as the rule says; if changes must wait, the server that this one waits for
-- has let go
pub record IsChange {Q P : Type 0} (waits : Bool) (shard : ℕ) (log : List (Transaction Q P))
    (txn : Transaction Q P) : Type 0 where
  pub change : Change
  pub is : stored_record shard (txn ∷ log) ≡ after_change (stored_record shard log) change
  pub after : Stand
  pub leads : stand_after (stored_record shard log).stand change ≡ Some after
  pub waited : IsTrue waits → HasWaited log (placement_of log) shard change

-- a transaction doesn't change the shard's record, or changes it in this way
abbrev pub RecordStep : {Q P : Type 0} → Bool → ℕ → List (Transaction Q P) → Transaction Q P → Type 0
RecordStep waits shard log txn =
    (stored_record shard (txn ∷ log) ≡ stored_record shard log) ⊎ IsChange waits shard log txn

some_there : {A : Type 0} (found : Option A) → is_some found ≡ true → (x : A) × (found ≡ Some x)
some_there None is = absurd (false≢true is)
some_there (Some x) is = (x, refl)

module _ {Q P : Type 0} (charter : Charter Q P) (shard revision : ℕ) where
  changing : (log : List (Transaction Q P)) (process at : ℕ) (change : Change) (next : Record) (elected placed : ℕ)
      → IsRight charter log (Changing process at change next elected placed)
      → RecordStep charter.waits shard log
      (done_at {Q = Q} {P = P} revision (Changing process at change next elected placed))
  changing log process at change next elected placed right =
      ⊎_elim
      (λ (yes : (at == shard) ≡ true).
      let same = eqb-true at shard yes in
      let state = stored_record shard log in
      let is : next ≡ after_change state change =
      subst (λ (n : ℕ). next ≡ after_change (stored_record n log) change) same right.changed.is in
      let fits = subst (λ (n : ℕ). change_fits charter.ceiling (stored_record n log) 0 change ≡ true) same
      right.changed.fits in
      let idle = and_parts (not state.admitted) _ (and_parts (0 == 0) _ fits).1 in
      let legal = and_parts (nat_lt state.generation charter.ceiling) _ idle.1 in
      let found = some_there (stand_after state.stand change) legal.1 in
      inr (record {
        change = change;
        is = cond-true (at == shard) next state yes ∙ is;
        after = found.0;
        leads = found.1;
        waited = λ waits. subst (λ (n : ℕ). HasWaited log (placement_of log) n change) same (right.waited waits);
      }))
      (λ (no : (at == shard) ≡ false). inl (cond-false (at == shard) next (stored_record shard log) no))
      (cases_Bool (at == shard))

  record_deed : (log : List (Transaction Q P)) (deed : Deed Q P) → IsRight charter log deed
      → RecordStep charter.waits shard log (done_at revision deed)
  record_deed log (Changing process at change next elected placed) right =
      changing log process at change next elected placed right
  record_deed log (Electing process) right = inl refl
  record_deed log (Expiring keys) right = inl refl
  record_deed log (Restarting process server run elected placed) right = inl refl
  record_deed log (Settling settings) right = inl refl
  record_deed log (Resettling process settings elected placed) right = inl refl
  record_deed log (Executing at server items head stood logged) right = inl refl
  record_deed log (Basing at number place part) right = inl refl
  record_deed log (Naming at head number parts logged) right = inl refl
  record_deed log (Clearing keys) right = inl refl
  record_deed log (Following server seen acks told) right = inl refl
  record_deed log (Checking compares) right = inl refl
  record_deed log Foreign right = inl refl

-- the record is this one, or a later one
abbrev pub IsSince : Record → Record → Type 0
IsSince was held = (held ≡ was) ⊎ (was.generation < held.generation)

changed_since : (was held after : Record) → after.generation ≡ held.generation + 1 → IsSince was held
    → IsSince was after
changed_since was held after more (inl same) =
    let kept = ap (λ (r : Record). r.generation) same in inr (omega arith)
changed_since was held after more (inr later) = inr (omega arith)

module _ {Q P : Type 0} (charter : Charter Q P) (shard : ℕ) where
  pub record_step : (log : List (Transaction Q P)) (txn : Transaction Q P) → WasRight charter log txn
      → RecordStep charter.waits shard log txn
  record_step log txn right =
      subst (RecordStep charter.waits shard log) (sym right.is)
      (record_deed charter shard txn.revision log right.deed right.right)

  -- the shard's record is the same after more transactions, or a later one
  pub record_since : (later past : List (Transaction Q P)) → AreRight charter (later ++ past)
      → IsSince (stored_record shard past) (stored_record shard (later ++ past))
  record_since [] past right = inl refl
  record_since (txn ∷ later) past right =
      let was = stored_record shard past in
      let log = later ++ past in
      let held = stored_record shard log in
      let on = record_since later past right.1 in
      ⊎_elim
      (λ (same : stored_record shard (txn ∷ log) ≡ held). subst (IsSince was) (sym same) on)
      (λ (changed : IsChange charter.waits shard log txn).
      changed_since was held (stored_record shard (txn ∷ log)) (ap (λ (r : Record). r.generation) changed.is) on)
      (record_step log txn right.0)
