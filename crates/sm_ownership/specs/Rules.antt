-- The rules of ownership: the effect of each change, who executes a shard's requests, and who forwards them.
use Rattle.std.specs.Prelude.{ℕ, Bool, false, Option, Some, None, Result, Ok, Err, ◌≡◌, ◌==◌, ◌+◌, ◌&&◌, nat_lt, not}
use Rattle.std.specs.Prelude.{is_some, if◌then◌else◌}
use Rattle.sm_ranges.specs.declared.stand.Stand.{Stand}
use Rattle.sm_ranges.specs.declared.stand.Stand.TheVariants.{Vacant, Serving, Prepared, Forwarding, Taken, Paused}
use Rattle.sm_ownership.specs.declared.change.Change.{Change}
use Rattle.sm_ownership.specs.declared.change.Change.TheVariants.{Assign, PrepareAddShard, PrepareDropShard, AddShard}
use Rattle.sm_ownership.specs.declared.change.Change.TheVariants.{DropShard, Cancel, Pause, Resume, Reassign}
use Rattle.sm_ownership.specs.declared.change_fault.ChangeFault.{ChangeFault}
use Rattle.sm_ownership.specs.declared.change_fault.ChangeFault.TheVariants.{WrongPhase, SameServer}
use Rattle.sm_ownership.specs.declared.mode.Mode.{Mode}
use Rattle.sm_ownership.specs.declared.mode.Mode.TheVariants.{Direct, Forwarded}
use Rattle.sm_ownership.specs.declared.record.Record.{Record}
use Rattle.sm_ownership.specs.declared.admit_fault.AdmitFault.{AdmitFault}
use Rattle.sm_ownership.specs.declared.admit_fault.AdmitFault.TheVariants.{Vacant as IsVacant, Paused as IsPaused}
use Rattle.sm_ownership.specs.declared.admit_fault.AdmitFault.TheVariants.{NotExecutor, NotYet, Admitted, Spent}

-- the stand to which a change leads from a stand, if it may be made there
abbrev pub stand_after : Stand → Change → Option Stand
stand_after Vacant (Assign server) = Some (Serving server)
stand_after (Serving owner) (PrepareAddShard next) = if next == owner then None else Some (Prepared owner next)
stand_after (Prepared owner next) PrepareDropShard = Some (Forwarding owner next)
stand_after (Forwarding owner next) AddShard = Some (Taken next owner)
stand_after (Taken owner previous) DropShard = Some (Serving owner)
stand_after (Prepared owner next) Cancel = Some (Serving owner)
stand_after (Forwarding owner next) Cancel = Some (Serving owner)
stand_after (Serving owner) Pause = Some (Paused owner)
stand_after (Paused owner) Resume = Some (Serving owner)
stand_after (Paused owner) (Reassign next) = if next == owner then None else Some (Serving next)
stand_after _ _ = None

-- the change names the shard's owner as its new server
abbrev pub names_owner : Stand → Change → Bool
names_owner (Serving owner) (PrepareAddShard next) = next == owner
names_owner (Paused owner) (Reassign next) = next == owner
names_owner _ _ = false

-- the reason why a stand doesn't allow a change, if the change leads nowhere from there
abbrev pub phase_fault : Stand → Change → Option ChangeFault
phase_fault stand change =
    if is_some (stand_after stand change) then None
    else Some (if names_owner stand change then SameServer else WrongPhase)

-- the result of a change of a stand: the stand to which it leads, or the first fault
abbrev pub IsChangeResult : Stand → Change → Result Stand ChangeFault → Type 0
IsChangeResult stand change (Ok after) = (phase_fault stand change ≡ None) × (stand_after stand change ≡ Some after)
IsChangeResult stand change (Err fault) = (phase_fault stand change ≡ Some fault) × (stand_after stand change ≡ None)

-- the server that a change newly names
abbrev pub newly_named : Change → Option ℕ
newly_named (Assign server) = Some server
newly_named (PrepareAddShard next) = Some next
newly_named (Reassign next) = Some next
newly_named _ = None

-- who executes a shard's requests, by its stand
abbrev pub executor_of : Stand → Option ℕ
executor_of Vacant = None
executor_of (Serving owner) = Some owner
executor_of (Prepared owner next) = Some owner
executor_of (Forwarding owner next) = Some next
executor_of (Taken owner previous) = Some owner
executor_of (Paused owner) = None

-- who executes requests on a shard of this record
abbrev pub executor : Record → Option ℕ
executor state = executor_of state.stand

-- it came by way of this server
abbrev pub is_forwarded_by : ℕ → Mode → Bool
is_forwarded_by owner Direct = false
is_forwarded_by owner (Forwarded from) = from == owner

-- the server that is named is this one
abbrev pub is_server : Option ℕ → ℕ → Bool
is_server None server = false
is_server (Some named) server = named == server

-- the owner forwards, and this request isn't one that the owner forwarded
abbrev pub is_early : Stand → Mode → Bool
is_early (Forwarding owner next) mode = not (is_forwarded_by owner mode)
is_early _ mode = false

-- the server executes a request that comes to it in this mode: the executor does, unless the request comes early
abbrev pub accepts_at : Stand → ℕ → Mode → Bool
accepts_at stand server mode = is_server (executor_of stand) server && not (is_early stand mode)

-- the record makes the server execute a request that comes to it in this mode
abbrev pub accepts : Record → ℕ → Mode → Bool
accepts state server mode = accepts_at state.stand server mode

-- the server to which a server forwards requests: the owner forwards to the next server, and later the previous owner
-- to the owner
abbrev pub forward_at : Stand → ℕ → Option ℕ
forward_at (Forwarding owner next) server = if owner == server then Some next else None
forward_at (Taken owner previous) server = if previous == server then Some owner else None
forward_at _ server = None

-- the server to which this one forwards requests on a shard of this record
abbrev pub forward_to : Record → ℕ → Option ℕ
forward_to state server = forward_at state.stand server

-- the faults of a record whose shard has an executor
abbrev pub executing_fault : ℕ → Record → ℕ → Mode → Option AdmitFault
executing_fault ceiling state server mode =
    if not (is_server (executor state) server) then Some NotExecutor
    else if is_early state.stand mode then Some NotYet
    else if state.admitted then Some Admitted
    else if nat_lt ceiling (state.generation + 2) then Some Spent
    else None

-- why nobody is admitted at a stand, or the other fault if there is one
abbrev pub fault_at : Stand → Option AdmitFault → Option AdmitFault
fault_at Vacant later = Some IsVacant
fault_at (Paused owner) later = Some IsPaused
fault_at _ later = later

-- the first reason why a record doesn't admit a server
abbrev pub admit_fault : ℕ → Record → ℕ → Mode → Option AdmitFault
admit_fault ceiling state server mode = fault_at state.stand (executing_fault ceiling state server mode)
