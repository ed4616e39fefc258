-- Any number of servers and controls over one store: each step of either is one of the code, and nobody else does their
-- work. A process may stop, be copied, or begin again at any moment: nothing here depends on its memory.
use Rattle.std.specs.Prelude.{ℕ, Bool, true, false, Option, Some, None, IfSome, IsTrue, ◌≡◌, List, [], ◌∷◌}
use Rattle.std.specs.List.{AllByRecursion}
use Rattle.sm_ownership.specs.Rules.{executor}
use Rattle.sm_place.specs.Sound.{AreSound}
use Rattle.sm_tasks.specs.Caps.{MeetsCaps}
use Rattle.sm_desk.specs.declared.command.Command.{Command}
use Rattle.sm_store.specs.declared.server_run.ServerRun.{ServerRun}
use Rattle.sm_store.specs.Clients.{Automaton}
use Rattle.sm_store.specs.Deeds.{Charter, Deed, MayDo, transaction_of}
use Rattle.sm_store.specs.Deeds.{Electing, Expiring, Settling, Following, Checking, Foreign}
use Rattle.sm_store.specs.Settings.{ControlSettings}
use Rattle.sm_store.specs.Store.{Transaction, Write, Executes, stored_record}
use Rattle.sm_store.specs.System.{Event, Sends, Claims, IsAmong, May, System}
use Rattle.sm_shard.specs.Bases.{Part, base_of}
use Rattle.sm_shard.specs.Fleet.{Act, Fleet, Starts, Steps, Otherwise, MayAct, fleet_acted, fleet_after}
use Rattle.sm_shard.specs.Steps.{IsRequestAsked, KeepsAsked}
use Rattle.sm_lead.specs.declared.ack_read.AckRead.{AckRead}
use Rattle.sm_lead.specs.declared.leadership.Leadership.{Leadership}
use Rattle.sm_lead.specs.declared.record_read.RecordRead.{RecordRead}
use Rattle.sm_lead.specs.declared.sent_command.Judged.{Judged}
use Rattle.sm_lead.specs.declared.sent_command.Judged.TheVariants.{Sent, Refused}
use Rattle.sm_lead.specs.declared.sent_command.SendOutcome.{SendOutcome}
use Rattle.sm_lead.specs.declared.sent_command.SendOutcome.TheVariants.{Made, Lost, Unknown}
use Rattle.sm_lead.specs.declared.sent_command.SentCommand.{SentCommand}
use Rattle.sm_lead.specs.declared.store_control.StoreControl.{StoreControl}
use Rattle.sm_lead.specs.Commands.{IsAfter, may_name, write_of}
use Rattle.sm_lead.specs.Controls.{CommandWasMade, IsLoaded, IsReadBy, IsReadOf, written_desk}
use Rattle.sm_lead.specs.Placements.{SettingsReading, charter_of}
use Rattle.sm_lead.specs.Resettlings.{resettle_fault, resettling}
use Rattle.sm_lead.specs.Sendings.{IsJudged, command_transaction, sending_of}
use Rattle.sm_lead.specs.Waits.{AreAcksMade, has_waited}

-- the configuration of all processes: how they read settings, and whether commands wait for acks
pub record Given : Type 0 where
  pub reading : SettingsReading
  pub waits : Bool

-- the charter by which the store is judged
abbrev pub charter_given : {M Q R : Type 0} → Automaton M Q R → Given → Charter Q (Part R)
charter_given service given = charter_of given.reading given.waits (base_of service)

-- the store with its servers, everything that any control ever knew, and the commands that controls sent
pub record Whole (M Q R : Type 0) : Type 0 where
  pub fleet : Fleet M Q R
  pub controls : List StoreControl
  pub commands : List SentCommand

-- the next act
pub data WholeAct (M Q R : Type 0) : Type 0 where
  -- a server starts or makes a step, or something happens around them
  Serves : (act : Act M Q R) → WholeAct M Q R
  -- a control is made from the settings in force, and from the readings with them
  Loads : (settings : ControlSettings) (lead : Leadership) (reads : List RecordRead) (runs : List ServerRun)
      (placed : ℕ) (control : StoreControl) → WholeAct M Q R
  -- a control that has read these acks judges a command, if this process runs the server that it names, and sends it or
  -- refuses it
  Judges : (control : StoreControl) (acks : List AckRead) (process : ℕ) (command : Command) (judged : Judged)
      → WholeAct M Q R
  -- a control sends other settings, from which this other control was made
  Resettles : (control other : StoreControl) (settings : List ℕ) → WholeAct M Q R
  -- a control is told the outcome of its command, and keeps the knowledge that it then has, if any
  Hears : (sent : SentCommand) (outcome : SendOutcome) (left : Option StoreControl) → WholeAct M Q R

-- the transaction of a command that was sent
abbrev pub command_sent : {Q P : Type 0} → SentCommand → Transaction Q P
command_sent sent = command_transaction (sending_of sent.control sent.write)

-- the controls, with the remaining one
abbrev pub with_left : Option StoreControl → List StoreControl → List StoreControl
with_left None controls = controls
with_left (Some control) controls = control ∷ controls

-- all of it after the act
abbrev pub whole_acted : {M Q R : Type 0} → Whole M Q R → WholeAct M Q R → Whole M Q R
whole_acted whole (Serves act) =
    record { fleet = fleet_acted whole.fleet act; controls = whole.controls; commands = whole.commands }
whole_acted whole (Loads settings lead reads runs placed control) =
    record { fleet = whole.fleet; controls = control ∷ whole.controls; commands = whole.commands }
whole_acted whole (Judges control acks process command (Sent sent)) =
    record {
      fleet = fleet_acted whole.fleet (Otherwise (Sends (command_sent sent)));
      controls = whole.controls;
      commands = sent ∷ whole.commands;
    }
whole_acted whole (Judges control acks process command (Refused kept fault)) = whole
whole_acted whole (Resettles control other settings) =
    record {
      fleet = fleet_acted whole.fleet (Otherwise (Sends (resettling control settings)));
      controls = whole.controls;
      commands = whole.commands;
    }
whole_acted whole (Hears sent outcome left) =
    record { fleet = whole.fleet; controls = with_left left whole.controls; commands = whole.commands }

-- the deed is neither a server's step nor a control's command: an election, the end of a lease, the first settings, the
-- progress of a server's reading, or a write elsewhere
abbrev pub is_of_world : {Q P : Type 0} → Deed Q P → Bool
is_of_world (Electing process) = true
is_of_world (Expiring keys) = true
is_of_world (Settling settings) = true
is_of_world (Following server revision acks told) = true
is_of_world (Checking compares) = true
is_of_world Foreign = true
is_of_world _ = false

-- the transaction is such a deed: it removes only keys under leases, and a server acks only when it may
pub record IsOfWorld {Q P : Type 0} (charter : Charter Q P) (log : List (Transaction Q P))
    (txn : Transaction Q P) : Type 0 where
  pub deed : Deed Q P
  pub of_world : IsTrue (is_of_world deed)
  pub may : MayDo charter log deed
  pub is : txn ≡ transaction_of deed

-- the possible events around servers and controls: only deeds of the world are sent, and no answer is told
abbrev pub MayOccur : {M Q R : Type 0} → Automaton M Q R → Charter Q (Part R) → System Q (Part R) R
    → Event Q (Part R) R → Type 0
MayOccur service charter system (Sends txn) = IsOfWorld charter system.log txn
MayOccur service charter system (Claims claim) = ⊥
MayOccur service charter system event = May service charter system event

-- a server starts with nothing read, or makes a step as its contract says, with inputs that are true in the store
abbrev pub MayServe : {M Q R : Type 0} → Automaton M Q R → Charter Q (Part R) → Fleet M Q R → Act M Q R → Type 0
MayServe service charter fleet (Starts server) = MayAct service charter fleet (Starts server)
MayServe service charter fleet (Steps which old input result new) =
    MayAct service charter fleet (Steps which old input result new) × KeepsAsked old.server input result new
MayServe service charter fleet (Otherwise event) = MayOccur service charter fleet.system event

-- if a control is told that its command was made, that is true; otherwise nothing depends on it
abbrev pub IsToldSo : {Q P : Type 0} → List (Transaction Q P) → SentCommand → SendOutcome → Type 0
IsToldSo log sent (Made revision) = CommandWasMade log (command_sent sent) revision
IsToldSo log sent Lost = Unit {0}
IsToldSo log sent Unknown = Unit {0}

-- the rest of a control once it is told: the control after its command, or none
abbrev pub IsConcluded : SentCommand → SendOutcome → Option StoreControl → Type 0
IsConcluded sent (Made revision) left = IfSome left (IsAfter sent.control sent.command sent.write revision)
IsConcluded sent Lost left = left ≡ None
IsConcluded sent Unknown left = left ≡ None

-- the control was made from settings that are read as these, whether they are in force or not, and from records and
-- states that were in the store at one moment
pub record IsDraft {Q P : Type 0} (waits : Bool) (log : List (Transaction Q P)) (settings : ControlSettings)
    (control : StoreControl) : Type 0 where
  pub lead : Leadership
  pub reads : List RecordRead
  pub runs : List ServerRun
  pub placed : ℕ
  pub sound : AreSound control.desk.books
  pub caps : MeetsCaps control.desk.caps control.desk.books
  pub loaded : IsLoaded (written_desk settings) lead settings.ceiling waits reads runs placed control
  pub read : IsReadOf log (written_desk settings) lead reads runs placed

-- a control may send these settings: it doesn't refuse those of the other, which are the reading of the settings
pub record MaySendSettings {Q P : Type 0} (given : Given) (log : List (Transaction Q P)) (control other : StoreControl)
    (written : List ℕ) : Type 0 where
  pub settings : ControlSettings
  pub are_read : given.reading.settings written ≡ Some settings
  pub draft : IsDraft given.waits log settings other
  pub allowed : resettle_fault control other ≡ None

-- it may happen: a server acts as it may; a control is made from the records and states of the store at one moment with
-- the settings that were in force then; it judges a command as its contract says, about a process that may be named,
-- once the awaited servers have acked by acks that were made, if commands wait; it sends other settings that it doesn't
-- refuse; or it goes on from the outcome that it is told
abbrev pub MayBeActed : {M Q R : Type 0} → Automaton M Q R → Given → Whole M Q R → WholeAct M Q R → Type 0
MayBeActed service given whole (Serves act) = MayServe service (charter_given service given) whole.fleet act
MayBeActed service given whole (Loads settings lead reads runs placed control) =
    AreSound control.desk.books
    × IsLoaded (written_desk settings) lead settings.ceiling given.waits reads runs placed control
    × IsReadBy given.reading.settings whole.fleet.system.log settings lead reads runs placed
MayBeActed service given whole (Judges control acks process command judged) =
    IsAmong control whole.controls × AreAcksMade whole.fleet.system.log acks
    × (has_waited control acks command ≡ true) × (may_name control (write_of control process command) ≡ true)
    × IsJudged control process command judged
MayBeActed service given whole (Resettles control other settings) =
    IsAmong control whole.controls × MaySendSettings given whole.fleet.system.log control other settings
MayBeActed service given whole (Hears sent outcome left) =
    IsAmong sent whole.commands × IsToldSo whole.fleet.system.log sent outcome × IsConcluded sent outcome left

-- all of it after these acts, the latest first
abbrev pub whole_after : {M Q R : Type 0} → List (WholeAct M Q R) → Whole M Q R
whole_after [] = record { fleet = fleet_after []; controls = []; commands = [] }
whole_after (act ∷ earlier) = whole_acted (whole_after earlier) act

-- each of them might happen
abbrev pub IsRun : {M Q R : Type 0} → Automaton M Q R → Given → List (WholeAct M Q R) → Type 0
IsRun service given [] = Unit {0}
IsRun service given (act ∷ earlier) = MayBeActed service given (whole_after earlier) act × IsRun service given earlier

-- the same run from the servers' side: a command that a control sends, or settings, is an event around them
abbrev pub fleet_acts : {M Q R : Type 0} → List (WholeAct M Q R) → List (Act M Q R)
fleet_acts [] = []
fleet_acts (Serves act ∷ earlier) = act ∷ fleet_acts earlier
fleet_acts (Judges control acks process command (Sent sent) ∷ earlier) =
    Otherwise (Sends (command_sent sent)) ∷ fleet_acts earlier
fleet_acts (Resettles control other settings ∷ earlier) =
    Otherwise (Sends (resettling control settings)) ∷ fleet_acts earlier
fleet_acts (_ ∷ earlier) = fleet_acts earlier

-- if the act gives a server a request to be made, it was asked
abbrev pub IsGivenAsked : {M Q R : Type 0} → Fleet M Q R → Act M Q R → Type 0
IsGivenAsked fleet (Steps which old input result new) = IsRequestAsked fleet.system.asked old.server.shard input
IsGivenAsked fleet _ = Unit {0}

-- servers are given only requests that were asked
abbrev pub AreGivenAsked : {M Q R : Type 0} → List (WholeAct M Q R) → Type 0
AreGivenAsked [] = Unit {0}
AreGivenAsked (Serves act ∷ earlier) = IsGivenAsked (whole_after earlier).fleet act × AreGivenAsked earlier
AreGivenAsked (_ ∷ earlier) = AreGivenAsked earlier

-- if the write is a batch, the server that executed it is the executor in the shard's record at that time
abbrev pub IsByExecutor : {Q P : Type 0} → List (Transaction Q P) → Write Q P → Type 0
IsByExecutor past (Executes shard number server items) =
    AllByRecursion (λ item. executor (stored_record shard past) ≡ Some server) items
IsByExecutor past _ = Unit {0}

-- each batch in the store was executed by the one server that was the executor in the shard's record at that time
abbrev pub AreByExecutors : {Q P : Type 0} → List (Transaction Q P) → Type 0
AreByExecutors [] = Unit {0}
AreByExecutors (txn ∷ past) = AllByRecursion (IsByExecutor past) txn.writes × AreByExecutors past
