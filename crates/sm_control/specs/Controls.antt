-- The control as contracts see it, a chair and its desk, and the effect of a command on them.
use Rattle.std.specs.Prelude.{ℕ, false, ◌≡◌, ◌++◌, List, Option, Some, None, Result, Ok, Err, length}
use Rattle.sm_ownership.specs.declared.change.Change.{Change}
use Rattle.sm_ownership.specs.declared.change_fault.ChangeFault.TheVariants.{Spent as SpentRecord, Busy as BusyRecord}
use Rattle.sm_ownership.specs.declared.entry.Entry.{Entry}
use Rattle.sm_ownership.specs.declared.entry.Kind.TheVariants.{Admit}
use Rattle.sm_ownership.specs.declared.mode.Mode.{Mode}
use Rattle.sm_ownership.specs.History.{IsLegal, NoneBy}
use Rattle.sm_place.specs.Books.{BooksView, shard_at, state_of}
use Rattle.sm_place.specs.ServerState.{is_stopped}
use Rattle.sm_rule.specs.declared.change_refusal.ChangeRefusal.{ChangeRefusal}
use Rattle.sm_rule.specs.declared.change_refusal.ChangeRefusal.TheVariants.{Spent, Busy, Raced}
use Rattle.sm_rule.specs.declared.limits.Limits.{Limits}
use Rattle.sm_rule.specs.Changes.{ChairAdds, ChairLooks, ChairValue, NotMade}
use Rattle.sm_rule.specs.Views.{record_in}
use Rattle.sm_desk.specs.declared.command.Command.{Command}
use Rattle.sm_desk.specs.declared.command.Command.TheVariants.{Change as ChangeOf}
use Rattle.sm_desk.specs.declared.command.CommandFault.{CommandFault}
use Rattle.sm_desk.specs.declared.command.CommandFault.TheVariants.{Change as ChangeRefused, Raced as CommandRaced}
use Rattle.sm_desk.specs.Desk.{DeskView, commanded}

-- the chair of a board, and the desk that its changes are checked against
pub record ControlValue (Q : Type 0) : Type 0 where
  pub chair : ChairValue Q
  pub desk : DeskView

-- the books have a row for each shard, with the shard's stand after this history
abbrev pub AreStandsIn : {Q : Type 0} → BooksView → Limits → List (Entry Q) → Type 0
AreStandsIn books limits history =
    (length books.shards ≡ limits.count)
    × ((shard : ℕ) → (shard_at books.shards shard).stand ≡ (record_in limits history shard).stand)

-- the stands of the desk are those of the whole history that the chair has seen
abbrev pub AreStandsSeen : {Q : Type 0} → BooksView → ChairValue Q → Type 0
AreStandsSeen books chair = AreStandsIn books chair.board.limits chair.seen

-- passes alone may extend the history that the chair has seen to this legal history
abbrev pub PassesLeadTo : {Q : Type 0} → ChairValue Q → List (Entry Q) → Type 0
PassesLeadTo chair history =
    (later : List (Entry _)) × (history ≡ chair.seen ++ later) × NoneBy 0 later
    × IsLegal chair.board.limits.count chair.board.limits.ceiling history

-- the entry is the admission of a server that isn't stopped
abbrev pub AdmitsUnstopped : {Q : Type 0} → BooksView → Entry Q → Type 0
AdmitsUnstopped books entry =
    (server : ℕ) × (mode : Mode) × (entry.kind ≡ Admit server mode) × (is_stopped (state_of books server) ≡ false)

-- the fault of a command whose change the board refuses
abbrev pub fault_of : ChangeRefusal → CommandFault
fault_of (Spent state) = ChangeRefused (SpentRecord state)
fault_of (Busy state) = ChangeRefused (BusyRecord state)
fault_of (Raced read found) = CommandRaced read found

-- the control's answer and its state after it, if the desk refuses the command
abbrev pub CommandIsRefused : {Q : Type 0} → CommandFault → ControlValue Q → ControlValue Q
    → Result (Unit {0}) CommandFault → Type 0
CommandIsRefused fault before after result = (result ≡ Err fault) × (after ≡ before)

-- the answer of a change whose fault at the desk is this one, or none; if it is made, the chair has added it, and the
-- desk has it, too; if the board refuses it, the chair may have seen more, and the desk is as it was
abbrev pub Changed : {Q : Type 0} → Option CommandFault → ControlValue Q → ControlValue Q → ℕ → Change
    → Result (Unit {0}) CommandFault → Type 0
Changed (Some fault) before after shard change result = CommandIsRefused fault before after result
Changed None before after shard change (Ok made) =
    ChairAdds before.chair shard change after.chair × (after.desk ≡ commanded before.desk (ChangeOf shard change))
Changed None before after shard change (Err fault) =
    (refusal : ChangeRefusal) × (fault ≡ fault_of refusal)
    × ChairLooks before.chair after.chair × NotMade before.chair after.chair shard refusal × (after.desk ≡ before.desk)

-- the answer of a restart's step whose fault at the desk is this one, or none; if it is made, the chair is as it was
abbrev pub IsMadeOrRefused : {Q : Type 0} → Option CommandFault → ControlValue Q → ControlValue Q → Command
    → Result (Unit {0}) CommandFault → Type 0
IsMadeOrRefused (Some fault) before after step result = CommandIsRefused fault before after result
IsMadeOrRefused None before after step result =
    (result ≡ Ok tt) × (after ≡ record { chair = before.chair; desk = commanded before.desk step })

-- the answer of a command whose fault at the desk is this one, or none
abbrev pub Commanded : {Q : Type 0} → Option CommandFault → ControlValue Q → ControlValue Q → Command
    → Result (Unit {0}) CommandFault → Type 0
Commanded fault before after (ChangeOf shard change) result = Changed fault before after shard change result
Commanded fault before after step result = IsMadeOrRefused fault before after step result
