-- A control's judgement of a command, and the transaction of one that is sent.
use Rattle.std.specs.Prelude.{◌≡◌, ℕ, Option, Some, None, List, [], ◌∷◌, ◌++◌}
use Rattle.sm_desk.specs.declared.command.Command.{Command}
use Rattle.sm_store.specs.declared.compare.Compare.{Compare}
use Rattle.sm_store.specs.Store.{Transaction, server_key}
use Rattle.sm_store.specs.Deeds.{Changing, Deed, Restarting, at, command_compares, transaction_of}
use Rattle.sm_lead.specs.declared.command_sending.CommandSending.{CommandSending}
use Rattle.sm_lead.specs.declared.command_write.CommandWrite.{CommandWrite}
use Rattle.sm_lead.specs.declared.command_write.CommandWrite.TheVariants.{Record as WritesRecord, State as WritesState}
use Rattle.sm_lead.specs.declared.sent_command.Judged.{Judged}
use Rattle.sm_lead.specs.declared.sent_command.Judged.TheVariants.{Sent, Refused}
use Rattle.sm_lead.specs.declared.store_control.StoreControl.{StoreControl}
use Rattle.sm_lead.specs.Commands.{absent_of, command_fault, write_of}

-- a command that is refused leaves the control as it was; otherwise the control has sent it, if this process runs the
-- server
abbrev pub IsJudged : StoreControl → ℕ → Command → Judged → Type 0
IsJudged control process command (Sent sent) =
    (command_fault control command ≡ None) × (sent.control ≡ control) × (sent.command ≡ command)
    × (sent.write ≡ write_of control process command)
IsJudged control process command (Refused kept fault) =
    (command_fault control command ≡ Some fault) × (kept ≡ control)

-- the transaction for a command
abbrev pub sending_of : StoreControl → CommandWrite → CommandSending
sending_of control write =
    record {
      process = control.lead.process;
      elected = control.lead.elected;
      placed = control.placed;
      absent = absent_of write;
      write = write;
    }

-- the deed of the transaction
abbrev pub deed_of : {Q P : Type 0} → CommandSending → CommandWrite → Deed Q P
deed_of sending (WritesRecord shard change next) =
    Changing sending.process shard change next sending.elected sending.placed
deed_of sending (WritesState server run) = Restarting sending.process server run sending.elected sending.placed

-- the transaction's compares and writes
abbrev pub command_transaction : {Q P : Type 0} → CommandSending → Transaction Q P
command_transaction sending = transaction_of (deed_of sending sending.write)

-- the compares if a server's key must be absent
abbrev pub absences : Option ℕ → List Compare
absences None = []
absences (Some server) = at (server_key server) 0 ∷ []

-- the compares by the transaction's numbers: the leader, all records and states, and the absence of a server's key if
-- it names one
abbrev pub compares_of : CommandSending → List Compare
compares_of sending = command_compares sending.elected sending.placed ++ absences sending.absent
