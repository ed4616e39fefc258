-- Admissions without a request, each by a pass of its own.
use Rattle.std.specs.Prelude.{ℕ, ◌≡◌, List, Option, Some, None, length, slice_index_or}
use Rattle.sm_ownership.specs.declared.entry.Entry.{Entry}
use Rattle.sm_ownership.specs.declared.entry.Ending.TheVariants.{Nothing}
use Rattle.sm_ownership.specs.declared.entry.Kind.TheVariants.{Done}
use Rattle.sm_ownership.specs.declared.mode.Mode.TheVariants.{Direct}
use Rattle.sm_ownership.specs.declared.record.Record.{Record}
use Rattle.sm_rule.specs.declared.admit_refusal.AdmitRefusal.{AdmitRefusal}
use Rattle.sm_rule.specs.Admissions.{PassAdmitted, RefusedBy, held_admission}
use Rattle.sm_rule.specs.Boards.{BoardValue}
use Rattle.sm_rule.specs.Passes.{PassAdds, PassLooks, PassValue}
use Rattle.sm_rule.specs.Views.{Begins}
use Rattle.sm_calls.specs.Passes.{IsNewPass}

-- the pass that holds the shard, if any
abbrev pub hold_at : {Q : Type 0} → List (Option (PassValue Q)) → ℕ → Option (PassValue Q)
hold_at holds shard = slice_index_or holds shard None

-- the pass is admitted to the shard
abbrev pub HoldsShard : {Q : Type 0} → PassValue Q → ℕ → Type 0
HoldsShard pass shard = (state : Record) × (held_admission pass ≡ Some (shard, state))

-- there is a place for each shard of the board, and the pass in it is one of the board that is admitted to the shard
pub record AreHoldsOn {Q : Type 0} (board : BoardValue) (holds : List (Option (PassValue Q))) : Type 0 where
  pub many : length holds ≡ board.limits.count
  pub each : (shard : ℕ) (pass : PassValue Q) → hold_at holds shard ≡ Some pass
      → (pass.board ≡ board) × HoldsShard pass shard

-- the pass has seen more, and isn't admitted for a direct request to the shard, by the record that it has then seen,
-- which is told
abbrev pub IsTurnedAway : {Q : Type 0} → PassValue Q → ℕ → AdmitRefusal → List (Entry Q) → Type 0
IsTurnedAway {Q} before shard refusal told =
    (after : PassValue Q) × PassLooks before after × RefusedBy before after shard Direct refusal
    × Begins after.seen told

-- a new pass of the server that had seen the whole told history was admitted to the shard, for a direct request
abbrev pub IsHold : {Q : Type 0} → BoardValue → List (Entry Q) → ℕ → ℕ → PassValue Q → Type 0
IsHold {Q} board told shard server pass =
    (before : PassValue Q) × IsNewPass board server told before × PassAdmitted before shard Direct pass

-- the admission of a pass has ended with nothing
abbrev pub HasEnded : {Q : Type 0} → PassValue Q → PassValue Q → Type 0
HasEnded before after = (shard : ℕ) × HoldsShard before shard × PassAdds before shard (Done Nothing) after

-- the admission of a pass ended with nothing in a history
abbrev pub HasEndedIn : {Q : Type 0} → List (Entry Q) → PassValue Q → Type 0
HasEndedIn {Q} history pass = (ended : PassValue Q) × HasEnded pass ended × Begins ended.seen history

-- the admission of each hold has ended
abbrev pub AreEndedIn : {Q : Type 0} → List (Entry Q) → List (Option (PassValue Q)) → Type 0
AreEndedIn {Q} history holds =
    (shard : ℕ) (pass : PassValue Q) → hold_at holds shard ≡ Some pass → HasEndedIn history pass
