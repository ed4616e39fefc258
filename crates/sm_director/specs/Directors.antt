-- The effects of calls on a director: the control of a shared store with a line of settings, and its readings.
use Rattle.std.specs.Prelude.{ℕ, Bool, ◌≡◌, ◌<◌, ◌++◌, ◌∷◌, [], IsTrue, List, Ok, Some}
use Rattle.std.specs.Global.{Vec}
use Rattle.sm_codec.specs.declared.stored_record.StoredRecord.{StoredRecord}
use Rattle.sm_codec.specs.declared.stored_state.StoredState.{StoredState}
use Rattle.sm_codec.specs.Spelling.{SpellsState, record_bytes}
use Rattle.sm_desk.specs.declared.command.Command.{Command}
use Rattle.sm_desk.specs.declared.command.Command.TheVariants.{Change as ChangeOf}
use Rattle.sm_desk.specs.declared.command.CommandFault.{CommandFault}
use Rattle.sm_desk.specs.Desk.{DeskView}
use Rattle.sm_lead.specs.declared.ack_read.AckRead.{AckRead}
use Rattle.sm_lead.specs.declared.follower.Follower.{Follower}
use Rattle.sm_lead.specs.declared.next_step.NextStep.{NextStep}
use Rattle.sm_lead.specs.declared.record_read.RecordRead.{RecordRead}
use Rattle.sm_lead.specs.declared.sent_command.Judged.TheVariants.{Sent as JudgedSent}
use Rattle.sm_lead.specs.declared.sent_command.SentCommand.{SentCommand}
use Rattle.sm_lead.specs.declared.store_control.StoreControl.{StoreControl}
use Rattle.sm_lead.specs.Commands.{IsAfter, command_fault, read_at}
use Rattle.sm_lead.specs.Controls.{GoesByStore, IsLoaded}
use Rattle.sm_lead.specs.NextSteps.{all_follow, step_of_drain, step_of_vacant, unless_refused}
use Rattle.sm_lead.specs.Placements.{SettingsReading, charter_of}
use Rattle.sm_lead.specs.Waits.{AreAcksMade, has_waited, is_prepared}
use Rattle.sm_lead.specs.Sendings.{IsJudged, command_transaction, sending_of}
use Rattle.sm_ownership.specs.declared.change.Change.TheVariants.{DropShard, PrepareDropShard}
use Rattle.sm_place.specs.Books.{new_books}
use Rattle.sm_settings.specs.SettingsLine.{settings_of, values_of}
use Rattle.sm_store.specs.declared.item.Item.{Item}
use Rattle.sm_store.specs.declared.server_run.ServerRun.{ServerRun}
use Rattle.sm_store.specs.Deeds.{MaySend}
use Rattle.sm_store.specs.Store.{Transaction}
use Rattle.sm_director.specs.declared.director.Director.{Director}
use Rattle.sm_director.specs.declared.director_fault.DirectorFault.{DirectorFault}
use Rattle.sm_director.specs.declared.director_fault.DirectorFault.TheVariants.{Command as CommandRefused}
use Rattle.sm_director.specs.declared.director_fault.DirectorFault.TheVariants.{EarlierProcess, NotAcked, NotFollowed}
use Rattle.sm_director.specs.declared.director_fault.DirectorFault.TheVariants.{UnderWay}
use Rattle.sm_director.specs.declared.director_fault.DirectorFault.TheVariants as faults
use Rattle.sm_director.specs.declared.director_stage.DirectorStage.{DirectorStage}
use Rattle.sm_director.specs.declared.director_stage.DirectorStage.TheVariants.{Unread, Stands, Sent}

-- a director by this line of settings, of a process that was elected at this revision, which has read nothing, and
-- whose commands wait for acks or don't
pub record IsNewDirector (line : List ℕ) (process elected : ℕ) (waits : Bool) (director : Director) : Type 0 where
  pub settings : settings_of line ≡ Ok (values_of director.settings)
  pub caps : director.caps.ops ≡ director.settings.ops
  pub was_elected : 0 < elected
  pub process_is : director.lead.process ≡ process
  pub elected_is : director.lead.elected ≡ elected
  pub waits_is : director.waits ≡ waits
  pub records : director.records.items ≡ []
  pub runs : director.runs.items ≡ []
  pub followers : director.followers.items ≡ []
  pub acks : director.acks.items ≡ []
  pub stage : director.stage ≡ Unread

-- the director with other records that were added
abbrev pub with_records : Director → Vec RecordRead → Director
with_records director records =
    record {
      settings = director.settings;
      caps = director.caps;
      lead = director.lead;
      waits = director.waits;
      records = records;
      runs = director.runs;
      followers = director.followers;
      acks = director.acks;
      stage = director.stage;
    }

-- the director with other states that were added
abbrev pub with_runs : Director → Vec ServerRun → Director
with_runs director runs =
    record {
      settings = director.settings;
      caps = director.caps;
      lead = director.lead;
      waits = director.waits;
      records = director.records;
      runs = runs;
      followers = director.followers;
      acks = director.acks;
      stage = director.stage;
    }

-- the director with other followers
abbrev pub with_followers : Director → Vec Follower → Director
with_followers director followers =
    record {
      settings = director.settings;
      caps = director.caps;
      lead = director.lead;
      waits = director.waits;
      records = director.records;
      runs = director.runs;
      followers = followers;
      acks = director.acks;
      stage = director.stage;
    }

-- the director with other acks
abbrev pub with_acks : Director → Vec AckRead → Director
with_acks director acks =
    record {
      settings = director.settings;
      caps = director.caps;
      lead = director.lead;
      waits = director.waits;
      records = director.records;
      runs = director.runs;
      followers = director.followers;
      acks = acks;
      stage = director.stage;
    }

-- the director at another stage
abbrev pub with_stage : Director → DirectorStage → Director
with_stage director stage =
    record {
      settings = director.settings;
      caps = director.caps;
      lead = director.lead;
      waits = director.waits;
      records = director.records;
      runs = director.runs;
      followers = director.followers;
      acks = director.acks;
      stage = stage;
    }

-- the director is as it was
pub record KeepsAll (old new : Director) : Type 0 where
  pub settings : new.settings ≡ old.settings
  pub caps : new.caps ≡ old.caps
  pub lead : new.lead ≡ old.lead
  pub waits : new.waits ≡ old.waits
  pub records : new.records.items ≡ old.records.items
  pub runs : new.runs.items ≡ old.runs.items
  pub followers : new.followers.items ≡ old.followers.items
  pub acks : new.acks.items ≡ old.acks.items
  pub stage : new.stage ≡ old.stage

-- the bytes spell the record that was added, which was last written at this revision
abbrev pub AddsRecord : List ℕ → ℕ → Director → Director → Type 0
AddsRecord bytes stood old new =
    (stored : StoredRecord) × (records : Vec RecordRead) × (bytes ≡ record_bytes stored)
    × (records.items ≡ old.records.items ++ record { state = stored.state; stood = stood } ∷ [])
    × (new ≡ with_records old records)

-- the bytes spell the state that was added
abbrev pub AddsState : List ℕ → Director → Director → Type 0
AddsState bytes old new =
    (stored : StoredState) × (runs : Vec ServerRun) × SpellsState bytes stored
    × (runs.items ≡ old.runs.items ++ stored.run ∷ []) × (new ≡ with_runs old runs)

-- the follower was added
abbrev pub AddsFollower : ℕ → ℕ → Director → Director → Type 0
AddsFollower server revision old new =
    (followers : Vec Follower)
    × (followers.items ≡ old.followers.items ++ record { server = server; revision = revision } ∷ [])
    × (new ≡ with_followers old followers)

-- all followers were forgotten
abbrev pub ForgetsFollowers : Director → Director → Type 0
ForgetsFollowers old new =
    (followers : Vec Follower) × (followers.items ≡ []) × (new ≡ with_followers old followers)

-- the ack was added
abbrev pub AddsAck : ℕ → ℕ → ℕ → Director → Director → Type 0
AddsAck shard server generation old new =
    (acks : Vec AckRead)
    × (acks.items ≡ old.acks.items ++ record { shard = shard; server = server; generation = generation } ∷ [])
    × (new ≡ with_acks old acks)

-- all acks were forgotten
abbrev pub ForgetsAcks : Director → Director → Type 0
ForgetsAcks old new = (acks : Vec AckRead) × (acks.items ≡ []) × (new ≡ with_acks old acks)

-- the desk of the director's settings, on which nothing has happened
abbrev pub desk_of_settings : Director → DeskView
desk_of_settings director =
    record {
      books = new_books director.settings.servers.items director.settings.groups.items
          director.settings.shards.items director.settings.domains.items;
      caps = director.caps;
    }

-- the director keeps its settings, its election, whether it waits, its followers and acks, and the added readings are
-- dropped
pub record LetsGo (old new : Director) : Type 0 where
  pub settings : new.settings ≡ old.settings
  pub caps : new.caps ≡ old.caps
  pub lead : new.lead ≡ old.lead
  pub waits : new.waits ≡ old.waits
  pub followers : new.followers ≡ old.followers
  pub acks : new.acks ≡ old.acks
  pub records : new.records.items ≡ []
  pub runs : new.runs.items ≡ []

-- the control is the one made from the added readings
abbrev pub LoadsControl : ℕ → Director → Director → Type 0
LoadsControl placed old new =
    LetsGo old new × (control : StoreControl) × (new.stage ≡ Stands control)
    × IsLoaded (desk_of_settings old) old.lead old.settings.ceiling old.waits old.records.items old.runs.items placed
    control

-- nothing is read any more
abbrev pub ForgetsAll : Director → Director → Type 0
ForgetsAll old new = LetsGo old new × (new.stage ≡ Unread)

-- the transaction may be sent in every store in which the control's knowledge is true, whose settings in force are the
-- control's, and in which the acks were made
abbrev pub IsAllowedSend : List AckRead → SentCommand → Type 0
IsAllowedSend acks sent =
    (reading : SettingsReading) (parts : List (Item (Vec ℕ)) → List (Vec ℕ))
    (log : List (Transaction (Vec ℕ) (Vec ℕ)))
    → GoesByStore reading.settings log sent.control → AreAcksMade log acks
    → MaySend (charter_of reading sent.control.waits parts) log
    (command_transaction (sending_of sent.control sent.write))

-- if the command drops a shard, each follower has read that the shard is taken
abbrev pub IsFollowed : StoreControl → List Follower → Command → Type 0
IsFollowed control followers (ChangeOf k DropShard) =
    IsTrue (all_follow followers (read_at control.records.items k).stood)
IsFollowed control followers command = Unit {0}

-- if by the command the owner of a shard begins to forward, the next owner has acked the record
abbrev pub IsPrepared : StoreControl → List AckRead → Command → Type 0
IsPrepared control acks (ChangeOf k PrepareDropShard) = IsTrue (is_prepared control acks k)
IsPrepared control acks command = Unit {0}

-- the control doesn't refuse the command, and has sent it, if this process runs the server
abbrev pub SendsCommand : ℕ → Command → Director → Director → Type 0
SendsCommand process command old new =
    (control : StoreControl) × (sent : SentCommand) × (old.stage ≡ Stands control)
    × IsJudged control process command (JudgedSent sent) × IsFollowed control old.followers.items command
    × IsPrepared control old.acks.items command × IsTrue (has_waited control old.acks.items command)
    × IsAllowedSend old.acks.items sent
    × (new ≡ with_stage old (Sent sent))

-- it refuses it, for this first fault
abbrev pub RefusesCommand : Command → CommandFault → Director → Type 0
RefusesCommand command fault director =
    (control : StoreControl) × (director.stage ≡ Stands control) × (command_fault control command ≡ Some fault)

-- the fault is the command's first one, or EarlierProcess, about which nothing is said; no other is possible
abbrev pub RefusesWith : StoreControl → Command → DirectorFault → Type 0
RefusesWith control command (CommandRefused why) = command_fault control command ≡ Some why
RefusesWith control command EarlierProcess = Unit {0}
RefusesWith control command fault = ⊥

-- the control has this property
abbrev pub HasControl : (StoreControl → Type 0) → Director → Type 0
HasControl holds director = (control : StoreControl) × (director.stage ≡ Stands control) × holds control

-- a fault of the command is one for which the control refuses it; for NotFollowed, NotAcked and EarlierProcess it is
-- only said that there is a control; or there is none, because nothing was read, or a command is under way
abbrev pub RefusesFor : Command → Director → DirectorFault → Type 0
RefusesFor command director (CommandRefused why) = RefusesCommand command why director
RefusesFor command director NotFollowed = HasControl (λ control. Unit {0}) director
RefusesFor command director NotAcked = HasControl (λ control. Unit {0}) director
RefusesFor command director EarlierProcess = HasControl (λ control. Unit {0}) director
RefusesFor command director faults.Unread = director.stage ≡ Unread
RefusesFor command director UnderWay = (sent : SentCommand) × (director.stage ≡ Sent sent)
RefusesFor command director fault = ⊥

-- the command that was sent was made, at this revision
abbrev pub MakesCommand : ℕ → Director → Director → Type 0
MakesCommand revision old new =
    (sent : SentCommand) × (control : StoreControl) × (old.stage ≡ Sent sent)
    × IsAfter sent.control sent.command sent.write revision control × (new ≡ with_stage old (Stands control))

-- how a control goes on with the drain of a server
abbrev pub drain_step : StoreControl → ℕ → NextStep
drain_step control server = unless_refused control (step_of_drain control.desk.books server)

-- how it goes on with the vacant shards
abbrev pub vacant_step : StoreControl → NextStep
vacant_step control = unless_refused control (step_of_vacant control.desk.books)
