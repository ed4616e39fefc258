-- The codes by which calls refuse.
use Rattle.std.specs.Prelude.{ℕ, ◌≡◌, Option, Some, None}
use Rattle.sm_desk.specs.declared.command.CommandFault.{CommandFault}
use Rattle.sm_desk.specs.declared.command.CommandFault.TheVariants.{UnknownServer as NoServer, Change as ByChange}
use Rattle.sm_desk.specs.declared.command.CommandFault.TheVariants.{Place, Restart, Raced}
use Rattle.sm_ownership.specs.declared.admit_fault.AdmitFault.{AdmitFault}
use Rattle.sm_ownership.specs.declared.admit_fault.AdmitFault.TheVariants.{Vacant, Paused, NotExecutor, NotYet}
use Rattle.sm_ownership.specs.declared.admit_fault.AdmitFault.TheVariants.{Admitted, Spent as SpentAlready}
use Rattle.sm_ownership.specs.declared.change_fault.ChangeFault.{ChangeFault}
use Rattle.sm_ownership.specs.declared.change_fault.ChangeFault.TheVariants.{UnknownShard as NoShard, WrongPhase}
use Rattle.sm_ownership.specs.declared.change_fault.ChangeFault.TheVariants.{SameServer, Spent, Busy}
use Rattle.sm_place.specs.declared.books_fault.BooksFault.TheVariants.{NoMemory as NoBooks}
use Rattle.sm_place.specs.declared.place_fault.PlaceFault.{PlaceFault}
use Rattle.sm_place.specs.declared.place_fault.PlaceFault.TheVariants.{Leaving, NoCapacity, DomainLimit}
use Rattle.sm_ranges.specs.declared.key.KeyFault.TheVariants.{Empty, TooLong, NoMemory as NoKey}
use Rattle.sm_ranges.specs.declared.layout.LayoutFault.TheVariants.{Empty as NoBound, FirstNotEmpty, NotRising}
use Rattle.sm_ranges.specs.declared.layout.LayoutFault.TheVariants.{KeyTooLong, TooMany, NoMemory as NoBounds}
use Rattle.sm_rule.specs.declared.admit_refusal.AdmitRefusal.{AdmitRefusal}
use Rattle.sm_rule.specs.declared.make_fault.MakeFault.TheVariants.{BadCeiling as WrongCeiling, NoMemory as NoBoard}
use Rattle.sm_rule.specs.declared.make_fault.MakeFault.TheVariants.{NoShard as NoShards, TooMany as TooManyShards}
use Rattle.sm_rule.specs.Admissions.{fault_told}
use Rattle.sm_server.specs.declared.checkpoint_fault.CheckpointFault.{CheckpointFault}
use Rattle.sm_server.specs.declared.checkpoint_fault.CheckpointFault.TheVariants.{Admit as NotAdmittedTo}
use Rattle.sm_server.specs.declared.checkpoint_fault.CheckpointFault.TheVariants.{NoMemory as NoBase}
use Rattle.sm_server.specs.declared.refusal.Refusal.{Refusal}
use Rattle.sm_server.specs.declared.refusal.Refusal.TheVariants.{WrongShard, TooManyHops, KeptFull}
use Rattle.sm_server.specs.declared.refusal.Refusal.TheVariants.{NoMemory as NoRoom, Admit as UnadmittedAt}
use Rattle.sm_tasks.specs.declared.restart_fault.RestartFault.{RestartFault}
use Rattle.sm_tasks.specs.declared.restart_fault.RestartFault.TheVariants.{NotUp, NotAsked, GlobalCap, ShardCap}
use Rattle.sm_tasks.specs.declared.restart_fault.RestartFault.TheVariants.{GroupCap, DomainCap, NotApproved}
use Rattle.sm_tasks.specs.declared.restart_fault.RestartFault.TheVariants.{StillServing, AlreadyUp, AlreadyFailed}
use Rattle.sm_foreign.specs.declared.open_fault.OpenFault.{OpenFault}
use Rattle.sm_foreign.specs.declared.open_fault.OpenFault.TheVariants.{Board, Bodies, Books, Restarts, Servers}
use Rattle.sm_foreign.specs.declared.open_fault.OpenFault.TheVariants.{NoMemory as NoMemoryToOpen}
use Rattle.sm_handle.specs.CutFault.{CutFault}
use Rattle.sm_handle.specs.CutFault.TheVariants.{Layout as NoLayout, Outside}
use Rattle.sm_handle.specs.ActFault.{ActFault}
use Rattle.sm_handle.specs.ActFault.TheVariants.{WrongHandle, UnknownShard, UnknownServer, NoMemory}
use Rattle.sm_handle.specs.ActFault.TheVariants.{TooShort, NotSent, NoMore, Admit, Checkpoint}
use Rattle.sm_handle.specs.ActFault.TheVariants.{Command}
use Rattle.sm_c.specs.declared.requests.RequestFault.{RequestFault}
use Rattle.sm_c.specs.declared.requests.RequestFault.TheVariants.{Argument, Key as BadKey}
use Rattle.sm_c.specs.declared.word_fault.WordFault.{WordFault}
use Rattle.sm_c.specs.declared.word_fault.WordFault.TheVariants.{BadWord, BadCeiling}
use Rattle.sm_c.specs.declared.word_fault.WordFault.TheVariants.{Change as WordUnchanged, Admit as WordUnadmitted}

-- why a record doesn't admit a server
abbrev pub admit_fault_code : AdmitFault → ℕ
admit_fault_code Vacant = 21
admit_fault_code Paused = 22
admit_fault_code NotExecutor = 23
admit_fault_code NotYet = 24
admit_fault_code Admitted = 25
admit_fault_code SpentAlready = 26

-- the same, or another record was found in place of the admitting one
abbrev pub raced_code : Option AdmitFault → ℕ
raced_code (Some fault) = admit_fault_code fault
raced_code None = 15

-- why a pass isn't admitted
abbrev pub told_code : AdmitRefusal → ℕ
told_code refusal = raced_code (fault_told refusal)

-- why a record doesn't change
abbrev pub change_fault_code : ChangeFault → ℕ
change_fault_code NoShard = 10
change_fault_code WrongPhase = 11
change_fault_code SameServer = 12
change_fault_code (Spent read) = 13
change_fault_code (Busy read) = 14

-- why a server takes no shard
abbrev pub place_fault_code : PlaceFault → ℕ
place_fault_code Leaving = 31
place_fault_code NoCapacity = 32
place_fault_code DomainLimit = 33

-- why a step of a server's restart isn't made
abbrev pub restart_fault_code : RestartFault → ℕ
restart_fault_code NotUp = 40
restart_fault_code NotAsked = 41
restart_fault_code GlobalCap = 42
restart_fault_code (ShardCap shard) = 43
restart_fault_code (GroupCap group) = 44
restart_fault_code (DomainCap domain) = 45
restart_fault_code NotApproved = 46
restart_fault_code (StillServing shard) = 47
restart_fault_code AlreadyUp = 48
restart_fault_code AlreadyFailed = 49

-- why a command isn't made
abbrev pub command_fault_code : CommandFault → ℕ
command_fault_code NoServer = 30
command_fault_code (ByChange fault) = change_fault_code fault
command_fault_code (Place fault) = place_fault_code fault
command_fault_code (Restart fault) = restart_fault_code fault
command_fault_code (Raced read found) = 15

-- why there is no checkpoint
abbrev pub checkpoint_fault_code : CheckpointFault → ℕ
checkpoint_fault_code (NotAdmittedTo refusal) = told_code refusal
checkpoint_fault_code NoBase = 3

-- why a call on a handle did nothing
abbrev pub act_fault_code : ActFault → ℕ
act_fault_code WrongHandle = 1
act_fault_code NotSent = 2
act_fault_code NoMemory = 3
act_fault_code UnknownShard = 10
act_fault_code UnknownServer = 30
act_fault_code TooShort = 55
act_fault_code NoMore = 56
act_fault_code (Admit refusal) = told_code refusal
act_fault_code (Checkpoint fault) = checkpoint_fault_code fault
act_fault_code (Command fault) = command_fault_code fault

-- this is the code of a fault with that property
abbrev pub IsCodeOf : (ActFault → Type 0) → ℕ → Type 0
IsCodeOf Refuses code = (fault : ActFault) × Refuses fault × (code ≡ act_fault_code fault)

-- the same of an admission, which is refused for fewer reasons
abbrev pub pass_code : ActFault → ℕ
pass_code (Admit refusal) = told_code refusal
pass_code UnknownShard = 10
pass_code fault = 1

-- why a server refuses an envelope
abbrev pub refusal_code : Refusal → ℕ
refusal_code NoRoom = 3
refusal_code WrongShard = 61
refusal_code TooManyHops = 62
refusal_code KeptFull = 63
refusal_code (UnadmittedAt refusal) = told_code refusal

-- why there is no next word
abbrev pub word_fault_code : WordFault → ℕ
word_fault_code BadWord = 4
word_fault_code BadCeiling = 5
word_fault_code (WordUnchanged fault) = change_fault_code fault
word_fault_code (WordUnadmitted fault) = admit_fault_code fault

-- why there is no board
abbrev pub open_fault_code : OpenFault → ℕ
open_fault_code Servers = 2
open_fault_code Restarts = 2
open_fault_code NoMemoryToOpen = 3
open_fault_code (Board NoBoard) = 3
open_fault_code (Board WrongCeiling) = 5
open_fault_code (Board NoShards) = 6
open_fault_code (Board TooManyShards) = 7
open_fault_code (Books NoBooks) = 3
open_fault_code (Books fault) = 8
open_fault_code Bodies = 9

-- why parts of a text are no layout
abbrev pub cut_fault_code : CutFault → ℕ
cut_fault_code Outside = 2
cut_fault_code (NoLayout NoBounds) = 3
cut_fault_code (NoLayout TooMany) = 7
cut_fault_code (NoLayout NoBound) = 50
cut_fault_code (NoLayout FirstNotEmpty) = 51
cut_fault_code (NoLayout (NotRising place)) = 52
cut_fault_code (NoLayout (KeyTooLong place)) = 53

-- why parts are no request of the sample service
abbrev pub request_fault_code : RequestFault → ℕ
request_fault_code Argument = 2
request_fault_code (BadKey Empty) = 57
request_fault_code (BadKey TooLong) = 58
request_fault_code (BadKey NoKey) = 3
