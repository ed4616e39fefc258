-- The commands that the control refuses, the writes of the others, and the readings after one that was made.
use Rattle.std.specs.Prelude.{ℕ, Bool, true, ◌≡◌, List, Option, None, Some, max, slice_index_or, slice_set}
use Rattle.std.specs.Option.{option_map, option_or}
use Rattle.sm_ownership.specs.History.{after_change, vacant}
use Rattle.sm_ownership.specs.Tables.{change_fault}
use Rattle.sm_place.specs.declared.server_state.ServerState.{ServerState}
use Rattle.sm_place.specs.declared.server_state.ServerState.TheVariants as states
use Rattle.sm_place.specs.Books.{place_of, state_of}
use Rattle.sm_desk.specs.declared.command.Command.{Command}
use Rattle.sm_desk.specs.declared.command.Command.TheVariants.{Change, Ask, Approve, Stopped, Back, Fail}
use Rattle.sm_desk.specs.declared.command.CommandFault.{CommandFault}
use Rattle.sm_desk.specs.declared.command.CommandFault.TheVariants.{Change as ChangeRefused}
use Rattle.sm_desk.specs.Desk.{DeskView, commanded, desk_fault}
use Rattle.sm_store.specs.declared.server_run.ServerRun.{ServerRun}
use Rattle.sm_store.specs.Deeds.{is_next_run}
use Rattle.sm_lead.specs.declared.command_write.CommandWrite.{CommandWrite}
use Rattle.sm_lead.specs.declared.command_write.CommandWrite.TheVariants.{Record as WritesRecord, State as WritesState}
use Rattle.sm_lead.specs.declared.record_read.RecordRead.{RecordRead}
use Rattle.sm_lead.specs.declared.store_control.StoreControl.{StoreControl}

-- the reading of a shard whose record was never written
abbrev pub unwritten : RecordRead
unwritten = record { state = vacant; stood = 0 }

-- the reading of a shard
abbrev pub read_at : List RecordRead → ℕ → RecordRead
read_at reads shard = slice_index_or reads shard unwritten

-- why the shard's record refuses a command that the desk doesn't
abbrev pub record_refusal : StoreControl → Command → Option CommandFault
record_refusal control (Change shard change) =
    option_map ChangeRefused (change_fault control.ceiling (read_at control.records.items shard).state change)
record_refusal control _ = None

-- the first reason for which the control refuses a command: the desk's, or one from the shard's record
abbrev pub command_fault : StoreControl → Command → Option CommandFault
command_fault control command = option_or (desk_fault control.desk command) (record_refusal control command)

-- the reading of a server whose state was never written
abbrev pub unentered : ServerRun
unentered = record { state = states.Up; process = 0 }

-- the process that the server's state names, by the readings
abbrev pub process_at : StoreControl → ℕ → ℕ
process_at control server =
    (slice_index_or control.runs.items (place_of control.desk.books.servers server) unentered).process

-- the server's state, and the process that it names
abbrev pub run_at : StoreControl → ℕ → ServerRun
run_at control server = record { state = state_of control.desk.books server; process = process_at control server }

-- the server's next state: with the process that runs the server, or with the one that its state names if that is later
abbrev pub run_into : StoreControl → ℕ → ℕ → ServerState → ServerRun
run_into control process server state = record { state = state; process = max (process_at control server) process }

-- the write of a command that isn't refused, if this process runs the server: the shard's next record, or the server's
-- next state
abbrev pub write_of : StoreControl → ℕ → Command → CommandWrite
write_of control process (Change shard change) =
    WritesRecord shard change (after_change (read_at control.records.items shard).state change)
write_of control process (Ask server) = WritesState server (run_into control process server states.Asked)
write_of control process (Approve server) = WritesState server (run_into control process server states.Approved)
write_of control process (Stopped server) = WritesState server (run_into control process server states.Stopped)
write_of control process (Back server) = WritesState server (run_into control process server states.Up)
write_of control process (Fail server) = WritesState server (run_into control process server states.Failed)

-- the state that is written may be said of the process that it names
abbrev pub may_name : StoreControl → CommandWrite → Bool
may_name control (WritesRecord shard change next) = true
may_name control (WritesState server run) = is_next_run (run_at control server) run

-- the server, if it is said to have failed
abbrev pub absent_in : ℕ → ServerState → Option ℕ
absent_in server states.Failed = Some server
absent_in server _ = None

-- the server whose key is absent when this is written: one that is declared failed
abbrev pub absent_of : CommandWrite → Option ℕ
absent_of (WritesRecord shard change next) = None
absent_of (WritesState server run) = absent_in server run.state

-- the readings of the records after this write at this revision
abbrev pub reads_after : List RecordRead → CommandWrite → ℕ → List RecordRead
reads_after reads (WritesRecord shard change next) revision =
    slice_set reads shard (record { state = next; stood = revision })
reads_after reads (WritesState server run) revision = reads

-- the readings of the desk's servers after this write
abbrev pub runs_after : DeskView → List ServerRun → CommandWrite → List ServerRun
runs_after desk runs (WritesRecord shard change next) = runs
runs_after desk runs (WritesState server run) = slice_set runs (place_of desk.books.servers server) run

-- the control once its command was made at this revision
pub record IsAfter (control : StoreControl) (command : Command) (write : CommandWrite) (revision : ℕ)
    (new : StoreControl) : Type 0 where
  pub desk : new.desk ≡ commanded control.desk command
  pub records : new.records.items ≡ reads_after control.records.items write revision
  pub runs : new.runs.items ≡ runs_after control.desk control.runs.items write
  pub ceiling : new.ceiling ≡ control.ceiling
  pub waits : new.waits ≡ control.waits
  pub lead : new.lead ≡ control.lead
  pub placed : new.placed ≡ revision
