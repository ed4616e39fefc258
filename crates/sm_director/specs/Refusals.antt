-- Why a call on a director is refused, and the director's state then.
use Rattle.std.specs.Prelude.{ℕ, ◌≡◌, ◌≢◌, ◌≤◌, ◌⊎◌, Option, Some, None, false, length}
use Rattle.sm_desk.specs.declared.command.Command.{Command}
use Rattle.sm_desk.specs.declared.command.CommandFault.TheVariants.{UnknownServer, Change as ChangeRefused}
use Rattle.sm_ownership.specs.declared.change_fault.ChangeFault.TheVariants.{UnknownShard}
use Rattle.sm_desk.specs.Desk.{is_known}
use Rattle.sm_lead.specs.declared.sent_command.SentCommand.{SentCommand}
use Rattle.sm_director.specs.declared.codes.TheConstants as codes
use Rattle.sm_director.specs.declared.director.Director.{Director}
use Rattle.sm_director.specs.declared.director_fault.DirectorFault.{DirectorFault}
use Rattle.sm_director.specs.declared.director_fault.DirectorFault.TheVariants.{Memory, Bytes, TooShort, NotSent}
use Rattle.sm_director.specs.declared.director_fault.DirectorFault.TheVariants.{Command as CommandRefused}
use Rattle.sm_director.specs.declared.director_fault.DirectorFault.TheVariants as faults
use Rattle.sm_director.specs.declared.director_stage.DirectorStage.TheVariants.{Unread, Sent}
use Rattle.sm_director.specs.declared.step_parts.StepParts.{StepParts}
use Rattle.sm_director.specs.Directors.{HasControl, RefusesFor}
use Rattle.sm_director.specs.Kinds.{command_parts, fault_code}

-- there is no control: nothing was read, or a command is under way
abbrev pub HasNoControl : Director → DirectorFault → Type 0
HasNoControl director faults.Unread = director.stage ≡ Unread
HasNoControl director faults.UnderWay = (sent : SentCommand) × (director.stage ≡ Sent sent)
HasNoControl director _ = ⊥

-- there is no control, or memory was refused
abbrev pub LacksMemory : Director → DirectorFault → Type 0
LacksMemory director fault = (fault ≡ Memory) ⊎ HasNoControl director fault

-- the fault of a shard that isn't there
abbrev pub shard_fault : DirectorFault
shard_fault = CommandRefused (ChangeRefused UnknownShard)

-- there is no control, or it has no such shard
abbrev pub LacksShard : ℕ → Director → DirectorFault → Type 0
LacksShard k director fault =
    ((fault ≡ shard_fault)
    × HasControl (λ control. length control.records.items ≤ k) director)
    ⊎ HasNoControl director fault

-- there is no control, or it has no such server
abbrev pub LacksServer : ℕ → Director → DirectorFault → Type 0
LacksServer server director fault =
    ((fault ≡ CommandRefused UnknownServer)
    × HasControl (λ control. is_known control.desk.books.servers server ≡ false) director)
    ⊎ HasNoControl director fault

-- memory was refused, or there is no room for the result, about which no more is said
abbrev pub LacksSpace : DirectorFault → Type 0
LacksSpace fault = (fault ≡ Memory) ⊎ (fault ≡ TooShort)

-- memory was refused, there is no room for the result, or it has no bytes
abbrev pub IsUnspelled : DirectorFault → Type 0
IsUnspelled fault = LacksSpace fault ⊎ (fault ≡ Bytes)

-- no command is under way
abbrev pub HasSentNone : Director → Type 0
HasSentNone director = (sent : SentCommand) → director.stage ≢ Sent sent

-- the fault is that no command was sent, and none is under way
abbrev pub IsNotSent : Director → DirectorFault → Type 0
IsNotSent director fault = (fault ≡ NotSent) × HasSentNone director

-- no command is under way, and that is the fault; or memory, room or bytes are, about which no more is said
abbrev pub CannotSpell : Director → DirectorFault → Type 0
CannotSpell director fault = IsUnspelled fault ⊎ IsNotSent director fault

-- memory was refused, or the bytes are wrong
abbrev pub IsUnreadable : DirectorFault → Type 0
IsUnreadable fault = (fault ≡ Memory) ⊎ (fault ≡ Bytes)

-- the code is that of a handle that keeps no director, or of a fault for which this director is refused
abbrev pub IsRefusedBy : (Director → DirectorFault → Type 0) → ℕ → Option Director → Type 0
IsRefusedBy why code None = code ≡ codes.WRONG_HANDLE
IsRefusedBy why code (Some director) = (fault : DirectorFault) × (code ≡ fault_code fault) × why director fault

-- the code is that of a handle that keeps no director, or of a fault for which the first director refuses the second
-- one's settings
abbrev pub AreRefusedBy : (Director → Director → DirectorFault → Type 0) → ℕ → Option Director → Option Director
    → Type 0
AreRefusedBy why code (Some one) (Some other) =
    (fault : DirectorFault) × (code ≡ fault_code fault) × why one other fault
AreRefusedBy why code one other = code ≡ codes.WRONG_HANDLE

-- the command of these parts is refused for that
abbrev pub RefusesPartsFor : StepParts → Director → DirectorFault → Type 0
RefusesPartsFor parts director fault =
    (command : Command) × (command_parts command ≡ parts) × RefusesFor command director fault
