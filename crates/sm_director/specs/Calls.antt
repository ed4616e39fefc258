-- The effects of calls on the director that a handle keeps.
use Rattle.std.specs.Prelude.{ℕ, true, false, ◌≡◌, ◌+◌, ◌++◌, List, Option, Some, None, Err, length, slice_get, take}
use Rattle.std.specs.Prelude.{unwrap_or}
use Rattle.sm_codec.specs.Spelling.{process_bytes, record_bytes, state_bytes}
use Rattle.sm_desk.specs.declared.command.Command.{Command}
use Rattle.sm_desk.specs.declared.command.CommandFault.{CommandFault}
use Rattle.sm_lead.specs.declared.command_sending.CommandSending.{CommandSending}
use Rattle.sm_lead.specs.declared.command_write.CommandWrite.{CommandWrite}
use Rattle.sm_lead.specs.declared.command_write.CommandWrite.TheVariants.{Record as WritesRecord, State as WritesState}
use Rattle.sm_lead.specs.declared.next_step.NextStep.{NextStep}
use Rattle.sm_lead.specs.declared.sent_command.SentCommand.{SentCommand}
use Rattle.sm_lead.specs.declared.store_control.StoreControl.{StoreControl}
use Rattle.sm_lead.specs.NextSteps.{IsAllowed}
use Rattle.sm_lead.specs.Sendings.{sending_of}
use Rattle.sm_rows.specs.declared.server_row.ServerRow.{ServerRow}
use Rattle.sm_settings.specs.declared.settings_fault.SettingsFault.{SettingsFault}
use Rattle.sm_settings.specs.SettingsLine.{settings_of}
use Rattle.sm_director.specs.declared.command_numbers.CommandNumbers.{CommandNumbers}
use Rattle.sm_director.specs.declared.director.Director.{Director}
use Rattle.sm_director.specs.declared.director_fault.DirectorFault.{DirectorFault}
use Rattle.sm_director.specs.declared.director_fault.DirectorFault.TheVariants.{Command as CommandRefused}
use Rattle.sm_director.specs.declared.director_stage.DirectorStage.TheVariants.{Sent}
use Rattle.sm_director.specs.declared.step_parts.StepParts.{StepParts}
use Rattle.sm_director.specs.Directors.{RefusesCommand, SendsCommand}
use Rattle.sm_director.specs.Kinds.{command_code, command_parts, line_code, step_parts}

-- the handle keeps a director with this property
abbrev pub KeepsDirector : (Director → Type 0) → Option Director → Type 0
KeepsDirector holds (Some director) = holds director
KeepsDirector holds None = ⊥

-- both handles keep directors, with this relation between them
abbrev pub DirectsOn : (Director → Director → Type 0) → Option Director → Option Director → Type 0
DirectsOn holds (Some old) (Some new) = holds old new
DirectsOn holds old new = ⊥

-- the server of the settings' row at this place
abbrev pub IsServerAt : ℕ → ℕ → Director → Type 0
IsServerAt at server director =
    (row : ServerRow) × (slice_get director.settings.servers.items at ≡ Some row) × (row.id ≡ server)

-- the line of settings has the fault of this code
abbrev pub BreaksRule : List ℕ → ℕ → Type 0
BreaksRule line code = (fault : SettingsFault) × (settings_of line ≡ Err fault) × (code ≡ line_code fault)

-- the command with these parts was sent, if this process runs the server
abbrev pub SendsParts : StepParts → ℕ → Director → Director → Type 0
SendsParts parts process old new =
    (command : Command) × (command_parts command ≡ parts) × SendsCommand process command old new

-- the command of these parts is refused, for the fault of this code
abbrev pub RefusesParts : StepParts → ℕ → Director → Type 0
RefusesParts parts code director =
    (command : Command) × (fault : CommandFault) × (command_parts command ≡ parts) × (code ≡ command_code fault)
    × RefusesCommand command fault director

-- the fault is that of a command, and has this code
abbrev pub IsRefusal : DirectorFault → ℕ → Type 0
IsRefusal fault code = (why : CommandFault) × (fault ≡ CommandRefused why) × (code ≡ command_code why)

-- the bytes that a command writes to a shard's record, or to a server's state
abbrev pub written_bytes : ℕ → CommandWrite → List ℕ
written_bytes process (WritesRecord shard change next) = record_bytes (record { state = next; process = process })
written_bytes process (WritesState server run) = state_bytes (record { run = run; process = process })

-- the record or state to which it is written
abbrev pub IsWrittenTo : CommandWrite → CommandNumbers → Type 0
IsWrittenTo (WritesRecord shard change next) numbers = (numbers.is_state ≡ false) × (numbers.number ≡ shard)
IsWrittenTo (WritesState server run) numbers = (numbers.is_state ≡ true) × (numbers.number ≡ server)

-- the numbers and the bytes are those of a command's transaction
pub record SpellsCommand (sending : CommandSending) (numbers : CommandNumbers) (written : List ℕ) : Type 0 where
  pub elected : numbers.elected ≡ sending.elected
  pub placed : numbers.placed ≡ sending.placed
  pub absent : numbers.absent ≡ unwrap_or sending.absent 0
  pub written_to : IsWrittenTo sending.write numbers
  pub length_is : numbers.length ≡ length (written_bytes sending.process sending.write)
  pub commands : numbers.commands_length ≡ length (process_bytes sending.process)
  pub bytes : take (numbers.length + numbers.commands_length) written
      ≡ written_bytes sending.process sending.write ++ process_bytes sending.process

-- they are those of the command that the director has sent
abbrev pub SpellsSent : CommandNumbers → List ℕ → Director → Type 0
SpellsSent numbers written director =
    (sent : SentCommand) × (director.stage ≡ Sent sent)
    × SpellsCommand (sending_of sent.control sent.write) numbers written

-- the parts are those of this step, which is allowed
abbrev pub TellsStep : StepParts → NextStep → StoreControl → Type 0
TellsStep parts step control = (parts ≡ step_parts step) × IsAllowed control step
