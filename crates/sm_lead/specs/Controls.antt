-- The knowledge of a control about the store, and its conclusions.
use Rattle.std.specs.Prelude.{ℕ, Bool, ◌≡◌, ◌<◌, IsTrue, List, ◌∷◌, ◌++◌, length, slice_index_or, Option, Some}
use Rattle.sm_place.specs.declared.server_state.ServerState.{ServerState}
use Rattle.sm_place.specs.declared.server_state.ServerState.TheVariants.{Up}
use Rattle.sm_place.specs.declared.shard.Shard.{Shard}
use Rattle.sm_place.specs.Books.{IsKnown, no_server, shard_at}
use Rattle.sm_desk.specs.Desk.{DeskView}
use Rattle.sm_store.specs.Store.{Placement, Transaction, all_hold, made_at, placement_key, placement_of}
use Rattle.sm_store.specs.Store.{record_key, revision_of, stored_record, stored_run}
use Rattle.sm_store.specs.Settings.{ControlSettings, first_books, in_force}
use Rattle.sm_store.specs.Deeds.{HasFooting, HasLed, WasFound}
use Rattle.sm_store.specs.declared.server_run.ServerRun.{ServerRun}
use Rattle.sm_lead.specs.declared.leadership.Leadership.{Leadership}
use Rattle.sm_lead.specs.declared.record_read.RecordRead.{RecordRead}
use Rattle.sm_lead.specs.declared.store_control.StoreControl.{StoreControl}
use Rattle.sm_lead.specs.Commands.{process_at, read_at, unentered}
use Rattle.sm_lead.specs.Placements.{Agrees, HasRowsOf, rows_of}

-- the control's knowledge is true in the store: it was elected, and at a moment at which the key of commands was last
-- written at this revision its desk agreed with all records and states
pub record KnowsStore {Q P : Type 0} (log : List (Transaction Q P)) (control : StoreControl) : Type 0 where
  pub led : HasLed log control.lead.process control.lead.elected
  pub read : Placement
  pub placement_was : WasFound placement_of placement_key log read control.placed
  pub agrees : Agrees control.desk.books read
  pub records : (k : ℕ) → k < length control.desk.books.shards
      → (read_at control.records.items k).state ≡ read.records k
  pub stood : (k : ℕ) → k < length control.desk.books.shards
      → WasFound (stored_record k) (record_key k) log (read_at control.records.items k).state
      (read_at control.records.items k).stood
  pub count : length control.records.items ≡ length control.desk.books.shards
  pub processes : (a : ℕ) → IsKnown control.desk.books.servers a → process_at control a ≡ read.processes a
  pub run_count : length control.runs.items ≡ length control.desk.books.servers

-- the settings of the control
abbrev pub settings_held : StoreControl → ControlSettings
settings_held control =
    record { rows = rows_of control.desk.books; caps = control.desk.caps; ceiling = control.ceiling }

-- and its settings were those in force at that moment
pub record GoesByStore {Q P : Type 0} (reading : List ℕ → Option ControlSettings) (log : List (Transaction Q P))
    (control : StoreControl) : Type 0 where
  pub knows : KnowsStore log control
  pub footing : HasFooting reading log knows.read (settings_held control) control.placed

-- there are as many shards as records, and each has the stand in its record
pub record AreStandsRead (shards : List Shard) (reads : List RecordRead) : Type 0 where
  pub count : length reads ≡ length shards
  pub stands : (k : ℕ) → k < length reads → (shard_at shards k).stand ≡ (read_at reads k).state.stand

-- the states are those that were read
pub record AreStatesRead (states : List ServerState) (reads : List ServerRun) : Type 0 where
  pub count : length reads ≡ length states
  pub each : (i : ℕ) → i < length reads → slice_index_or states i Up ≡ (slice_index_or reads i unentered).state

-- the control that was made from readings: its desk has these rows, and each shard and server as was read
pub record IsLoaded (desk : DeskView) (lead : Leadership) (ceiling : ℕ) (waits : Bool) (reads : List RecordRead)
    (runs : List ServerRun) (placed : ℕ) (control : StoreControl) : Type 0 where
  pub lead_is : control.lead ≡ lead
  pub ceiling_is : control.ceiling ≡ ceiling
  pub waits_is : control.waits ≡ waits
  pub placed_is : control.placed ≡ placed
  pub reads_are : control.records.items ≡ reads
  pub rows : HasRowsOf desk control.desk
  pub stands : AreStandsRead control.desk.books.shards reads
  pub states_are : AreStatesRead control.desk.books.states runs
  pub runs_are : control.runs.items ≡ runs

-- the desk of these settings before any command
abbrev pub written_desk : ControlSettings → DeskView
written_desk settings = record { books = first_books settings.rows; caps = settings.caps }

-- that is true in the store: all of it was read at one moment
pub record IsReadOf {Q P : Type 0} (log : List (Transaction Q P)) (desk : DeskView) (lead : Leadership)
    (reads : List RecordRead) (runs : List ServerRun) (placed : ℕ) : Type 0 where
  pub led : HasLed log lead.process lead.elected
  pub later : List (Transaction Q P)
  pub past : List (Transaction Q P)
  pub is : log ≡ later ++ past
  pub at : revision_of placement_key past ≡ placed
  pub records : (k : ℕ) → k < length reads → (read_at reads k).state ≡ stored_record k past
  pub stood : (k : ℕ) → k < length reads → (read_at reads k).stood ≡ revision_of (record_key k) past
  pub runs_were : (i : ℕ) → i < length runs
      → slice_index_or runs i unentered ≡ stored_run (slice_index_or desk.books.servers i no_server).id past

-- and these settings were in force then
pub record IsReadBy {Q P : Type 0} (reading : List ℕ → Option ControlSettings) (log : List (Transaction Q P))
    (settings : ControlSettings) (lead : Leadership) (reads : List RecordRead) (runs : List ServerRun)
    (placed : ℕ) : Type 0 where
  pub read : IsReadOf log (written_desk settings) lead reads runs placed
  pub settings_were : in_force reading read.past ≡ Some settings

-- the store made the transaction, at this revision
pub record CommandWasMade {Q P : Type 0} (log : List (Transaction Q P)) (txn : Transaction Q P)
    (revision : ℕ) : Type 0 where
  pub later : List (Transaction Q P)
  pub past : List (Transaction Q P)
  pub is : log ≡ later ++ made_at revision txn ∷ past
  pub held : IsTrue (all_hold past txn.compares)
