-- The reasons for which an admission on a board is refused.
use Rattle.std.specs.Prelude.{ℕ, ◌≡◌, ◌<◌, List, Option, Some, None}
use Rattle.std.specs.Option.{option_map}
use Rattle.sm_ownership.specs.declared.admit_fault.AdmitFault.{AdmitFault}
use Rattle.sm_ownership.specs.declared.admit_fault.AdmitFault.TheVariants.{NotExecutor}
use Rattle.sm_ownership.specs.declared.entry.Entry.{Entry}
use Rattle.sm_ownership.specs.declared.entry.Kind.TheVariants.{Admit}
use Rattle.sm_ownership.specs.declared.mode.Mode.{Mode}
use Rattle.sm_ownership.specs.declared.record.Record.{Record}
use Rattle.sm_ownership.specs.Rules.{admit_fault, fault_at}
use Rattle.sm_rule.specs.declared.admit_refusal.AdmitRefusal.{AdmitRefusal}
use Rattle.sm_rule.specs.declared.admit_refusal.AdmitRefusal.TheVariants.{Refused, Raced}
use Rattle.sm_rule.specs.declared.limits.Limits.{Limits}
use Rattle.sm_rule.specs.Boards.{BoardValue}
use Rattle.sm_rule.specs.Passes.{PassAdds, PassValue, record_of}
use Rattle.sm_rule.specs.Views.{Begins, record_in}
use Rattle.sm_rule.specs.Words.{IsWordOf}

-- the first reason for which a record doesn't admit a server, or a pass without a server
abbrev pub fault_for : ℕ → Record → Option ℕ → Mode → Option AdmitFault
fault_for ceiling state None mode = fault_at state.stand (Some NotExecutor)
fault_for ceiling state (Some server) mode = admit_fault ceiling state server mode

-- an exchange was lost: `read` was the record at a point between the earlier and the present view, and `found`, of a
-- greater generation, is the record now
abbrev pub Races : {Q : Type 0} → Limits → List (Entry Q) → List (Entry Q) → ℕ → Record → Record → Type 0
Races limits before after shard read found =
    (point : List (Entry _)) × Begins before point × Begins point after
    × (read ≡ record_in limits point shard) × (found ≡ record_in limits after shard)
    × (read.generation < found.generation)

-- the pass has seen more, and its own admission last
abbrev pub PassAdmitted : {Q : Type 0} → PassValue Q → ℕ → Mode → PassValue Q → Type 0
PassAdmitted before shard mode after =
    (server : ℕ) × (before.server ≡ Some server) × PassAdds before shard (Admit server mode) after

-- why a pass isn't admitted, by the record that it has then seen; or it was overtaken, and no fault applies to the
-- record read
abbrev pub RefusedBy : {Q : Type 0} → PassValue Q → PassValue Q → ℕ → Mode → AdmitRefusal → Type 0
RefusedBy before after shard mode (Refused fault state) =
    (state ≡ record_of after shard) × (fault_for before.board.limits.ceiling state before.server mode ≡ Some fault)
RefusedBy before after shard mode (Raced read found) =
    (fault_for before.board.limits.ceiling read before.server mode ≡ None)
    × Races before.board.limits before.seen after.seen shard read found

-- the fault of a refusal; it has none if another record was found
abbrev pub fault_told : AdmitRefusal → Option AdmitFault
fault_told (Refused fault state) = Some fault
fault_told (Raced read found) = None

-- the record by which a pass was refused, or the record that was found in its place
abbrev pub record_told : AdmitRefusal → Record
record_told (Refused fault state) = state
record_told (Raced read found) = found

-- the refusal has this fault, if any, and these are the words of the record that was read and of the record that was
-- found
abbrev pub IsToldBy : AdmitRefusal → Option AdmitFault → ℕ → ℕ → Type 0
IsToldBy (Refused applies state) fault read found =
    (fault ≡ Some applies) × IsWordOf state read × IsWordOf state found
IsToldBy (Raced before after) fault read found = (fault ≡ None) × IsWordOf before read × IsWordOf after found

-- a permit: the board that gave it, the shard, its record since the admission, and its body
pub record PermitValue (S : Type 0) : Type 0 where
  pub board : BoardValue
  pub shard : ℕ
  pub state : Record
  pub body : S

-- a permit whose body is now this
abbrev pub with_body : {S : Type 0} → PermitValue S → S → PermitValue S
with_body permit body = record permit { body = body }

-- the shard that a pass holds, with its record since the admission
abbrev pub held_admission : {Q : Type 0} → PassValue Q → Option (ℕ × Record)
held_admission pass = option_map (λ held. (held.shard, held.state)) pass.held

-- the permit is the one that the pass holds
abbrev pub HoldsPermit : {S Q : Type 0} → PassValue Q → PermitValue S → Type 0
HoldsPermit pass permit = (permit.board ≡ pass.board) × (held_admission pass ≡ Some (permit.shard, permit.state))
