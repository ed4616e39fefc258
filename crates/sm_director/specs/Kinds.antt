-- The numbers by which C names commands, and why they are refused.
use Rattle.std.specs.Prelude.{ℕ, unwrap_or}
use Rattle.sm_ownership.specs.declared.change.Change.{Change}
use Rattle.sm_ownership.specs.declared.change.Change.TheVariants.{Assign, PrepareAddShard, PrepareDropShard, AddShard}
use Rattle.sm_ownership.specs.declared.change.Change.TheVariants.{DropShard, Cancel, Pause, Resume, Reassign}
use Rattle.sm_ownership.specs.declared.change_fault.ChangeFault.{ChangeFault}
use Rattle.sm_ownership.specs.declared.change_fault.ChangeFault.TheVariants as changes
use Rattle.sm_ownership.specs.Rules.{newly_named}
use Rattle.sm_place.specs.declared.place_fault.PlaceFault.{PlaceFault}
use Rattle.sm_place.specs.declared.place_fault.PlaceFault.TheVariants as places
use Rattle.sm_tasks.specs.declared.restart_fault.RestartFault.{RestartFault}
use Rattle.sm_tasks.specs.declared.restart_fault.RestartFault.TheVariants as restarts
use Rattle.sm_desk.specs.declared.command.Command.{Command}
use Rattle.sm_desk.specs.declared.command.Command.TheVariants.{Change as ChangeOf, Ask, Approve, Stopped, Back, Fail}
use Rattle.sm_desk.specs.declared.command.CommandFault.{CommandFault}
use Rattle.sm_desk.specs.declared.command.CommandFault.TheVariants as commands
use Rattle.sm_lead.specs.declared.load_fault.LoadFault.{LoadFault}
use Rattle.sm_lead.specs.declared.load_fault.LoadFault.TheVariants as loads
use Rattle.sm_lead.specs.declared.resettle_fault.ResettleFault.{ResettleFault}
use Rattle.sm_lead.specs.declared.resettle_fault.ResettleFault.TheVariants as settings
use Rattle.sm_settings.specs.declared.settings_fault.SettingsFault.{SettingsFault}
use Rattle.sm_settings.specs.declared.settings_fault.SettingsFault.TheVariants as lines
use Rattle.sm_lead.specs.declared.next_step.NextStep.{NextStep}
use Rattle.sm_lead.specs.declared.next_step.NextStep.TheVariants.{Takes, Waits, Nothing}
use Rattle.sm_director.specs.declared.codes.TheConstants as codes
use Rattle.sm_director.specs.declared.director_fault.DirectorFault.{DirectorFault}
use Rattle.sm_director.specs.declared.director_fault.DirectorFault.TheVariants as faults
use Rattle.sm_director.specs.declared.step_parts.StepParts.{StepParts}

-- the kind of a change
abbrev pub change_kind : Change → ℕ
change_kind (Assign server) = 1
change_kind (PrepareAddShard server) = 2
change_kind PrepareDropShard = 3
change_kind AddShard = 4
change_kind DropShard = 5
change_kind Cancel = 6
change_kind Pause = 7
change_kind Resume = 8
change_kind (Reassign server) = 9

-- the parts of a command: its kind, and the shard and the server that it names, 0 for none
abbrev pub command_parts : Command → StepParts
command_parts (ChangeOf shard change) =
    record { shard = shard; server = unwrap_or (newly_named change) 0; kind = change_kind change }
command_parts (Ask server) = record { shard = 0; server = server; kind = 10 }
command_parts (Approve server) = record { shard = 0; server = server; kind = 11 }
command_parts (Stopped server) = record { shard = 0; server = server; kind = 12 }
command_parts (Back server) = record { shard = 0; server = server; kind = 13 }
command_parts (Fail server) = record { shard = 0; server = server; kind = 14 }

-- those of the next step
abbrev pub step_parts : NextStep → StepParts
step_parts Nothing = record { shard = 0; server = 0; kind = 0 }
step_parts (Takes command) = command_parts command
step_parts Waits = record { shard = 0; server = 0; kind = 15 }

-- the code of why a shard's stand or record refuses a change
abbrev pub change_code : ChangeFault → ℕ
change_code changes.UnknownShard = codes.UNKNOWN_SHARD
change_code changes.WrongPhase = codes.WRONG_PHASE
change_code changes.SameServer = codes.SAME_SERVER
change_code (changes.Spent state) = codes.CHANGE_SPENT
change_code (changes.Busy state) = codes.BUSY

-- that of why there is no room for a shard
abbrev pub place_code : PlaceFault → ℕ
place_code places.Leaving = codes.LEAVING
place_code places.NoCapacity = codes.NO_CAPACITY
place_code places.DomainLimit = codes.DOMAIN_LIMIT

-- that of why a step of a restart is refused
abbrev pub restart_code : RestartFault → ℕ
restart_code restarts.NotUp = codes.NOT_UP
restart_code restarts.NotAsked = codes.NOT_ASKED
restart_code restarts.GlobalCap = codes.GLOBAL_CAP
restart_code (restarts.ShardCap shard) = codes.SHARD_CAP
restart_code (restarts.GroupCap group) = codes.GROUP_CAP
restart_code (restarts.DomainCap domain) = codes.DOMAIN_CAP
restart_code restarts.NotApproved = codes.NOT_APPROVED
restart_code (restarts.StillServing shard) = codes.STILL_SERVING
restart_code restarts.AlreadyUp = codes.ALREADY_UP
restart_code restarts.AlreadyFailed = codes.ALREADY_FAILED

-- the code of why a command is refused
abbrev pub command_code : CommandFault → ℕ
command_code commands.UnknownServer = codes.UNKNOWN_SERVER
command_code (commands.Change fault) = change_code fault
command_code (commands.Place fault) = place_code fault
command_code (commands.Restart fault) = restart_code fault
command_code (commands.Raced read found) = codes.BUSY

-- the code of why other settings are refused
abbrev pub resettle_code : ResettleFault → ℕ
resettle_code settings.Apart = codes.READ_APART
resettle_code settings.OtherShards = codes.OTHER_SHARDS
resettle_code settings.OtherCeiling = codes.OTHER_CEILING
resettle_code (settings.InUse server) = codes.IN_USE

-- the code of the reason for which no control can be made from the readings
abbrev pub load_code : LoadFault → ℕ
load_code (loads.Unreached why) = codes.UNREACHED
load_code loads.Different = codes.DIFFERENT

-- the code of why a call on a director is refused
abbrev pub fault_code : DirectorFault → ℕ
fault_code faults.Memory = codes.NO_MEMORY
fault_code faults.Bytes = codes.BAD_BYTES
fault_code (faults.Load why) = load_code why
fault_code (faults.Command why) = command_code why
fault_code faults.Unread = codes.UNREAD
fault_code faults.UnderWay = codes.UNDER_WAY
fault_code faults.NotFollowed = codes.NOT_FOLLOWED
fault_code faults.NotAcked = codes.NOT_ACKED
fault_code faults.EarlierProcess = codes.EARLIER_PROCESS
fault_code faults.NotSent = codes.NOT_SENT
fault_code (faults.Resettle why) = resettle_code why
fault_code faults.TooShort = codes.TOO_SHORT

-- the code of a fault of a line of settings, as of boards
abbrev pub line_code : SettingsFault → ℕ
line_code lines.NoMemory = codes.NO_MEMORY
line_code lines.TooLong = 70
line_code lines.BadJson = 71
line_code lines.BadVersion = 72
line_code lines.BadShape = 73
line_code lines.BadLayout = 74
line_code lines.BadServers = 75
line_code lines.BadGroups = 76
line_code lines.BadShards = 77
line_code lines.BadOps = 78
line_code lines.BadKept = 79
line_code lines.BadCeiling = 80
line_code lines.BadWorkers = 81
line_code lines.BadDomains = 82
line_code lines.TooManyWorkers = 83
