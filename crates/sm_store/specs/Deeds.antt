-- The deeds of processes, which change the store: the transaction of each deed, when a process may send it by the
-- values that it has read, and when it is right for the store as it is.
use Rattle.std.specs.Prelude.{ℕ, Bool, true, false, Option, Some, None, ◌≡◌, ◌≢◌, ◌<◌, ◌≤◌, ◌+◌, IsTrue, List, []}
use Rattle.std.specs.Prelude.{◌∷◌, ◌++◌}
use Rattle.std.specs.Prelude.{length, nat_le, nat_lt, ◌&&◌, if◌then◌else◌}
use Rattle.std.specs.Prelude.{slice_get, ◌⊎◌}
use Rattle.std.specs.List.{AllByRecursion}
use Rattle.sm_ownership.specs.declared.change.Change.{Change}
use Rattle.sm_ownership.specs.declared.record.Record.{Record}
use Rattle.sm_ownership.specs.History.{after_change, change_fits}
use Rattle.sm_ownership.specs.Rules.{accepts}
use Rattle.sm_place.specs.declared.server_state.ServerState.{ServerState}
use Rattle.sm_place.specs.declared.server_state.ServerState.TheVariants.{Failed, Stopped}
use Rattle.sm_place.specs.ServerState.{is_stopped, is_up}
use Rattle.sm_store.specs.declared.compare.Compare.{Compare}
use Rattle.sm_store.specs.declared.head.Head.{Head}
use Rattle.sm_store.specs.declared.item.Item.{Item}
use Rattle.sm_store.specs.declared.server_run.ServerRun.{ServerRun}
use Rattle.sm_store.specs.declared.store_key.PassingKey.{PassingKey}
use Rattle.sm_store.specs.declared.store_key.PassingKey.TheVariants.{Leader, Server, Ack as AckKey, Batch, Part}
use Rattle.sm_store.specs.declared.store_key.StoreKey.{StoreKey}
use Rattle.sm_store.specs.Clients.{AreNext}
use Rattle.sm_store.specs.Store.{Ack, Transaction, Leads, Stands, Heads, Executes, Bases, Follows, Acks, Deletes}
use Rattle.sm_store.specs.Store.{Elsewhere}
use Rattle.sm_store.specs.Store.{Enters, Commands, Settles, Placement, leader_key, record_key, head_key, part_key}
use Rattle.sm_store.specs.Store.{placement_key, settings_key, revision_of, all_hold, leader_of, stored_record}
use Rattle.sm_store.specs.Store.{placement_of, server_key, stored_run, stored_settings, head_of, part_at, made}
use Rattle.sm_store.specs.Store.{made_until}
use Rattle.sm_store.specs.Store.{last_revision, made_at, unmade}
use Rattle.sm_store.specs.Settings.{ControlSettings, MayReplace, footing_of, in_force}
use Rattle.sm_store.specs.Waits.{HasWaited, HaveLetGo, MayLetGo}

-- everything that all processes go by: how many shards there are, the greatest generation of a record, the meaning of
-- written settings, which changes and states a control of settings allows by the records and states as they are,
-- whether commands must wait for acks, and the parts of a base for requests
pub record Charter (Q P : Type 0) : Type 0 where
  pub count : ℕ
  pub ceiling : ℕ
  pub settings : List ℕ → Option ControlSettings
  pub allows_change : ControlSettings → Placement → ℕ → Change → Bool
  pub allows_state : ControlSettings → Placement → ℕ → ServerState → Bool
  pub waits : Bool
  pub parts : List (Item Q) → List P

-- a deed of a process, which changes the store
pub data Deed (Q P : Type 0) : Type 0 where
  -- a process is elected
  Electing : (process : ℕ) → Deed Q P
  -- a lease ends, and its keys are deleted
  Expiring : (keys : List PassingKey) → Deed Q P
  -- a process that leads changes a shard's record; it read its election at the first revision, and all records and
  -- states at the second
  Changing : (process shard : ℕ) (change : Change) (next : Record) (elected placed : ℕ) → Deed Q P
  -- a process that leads makes a step of a server's restart
  Restarting : (process server : ℕ) (run : ServerRun) (elected placed : ℕ) → Deed Q P
  -- a process writes the first settings
  Settling : (settings : List ℕ) → Deed Q P
  -- a process that leads writes other settings in their place, by the same kinds of revisions as for a command
  Resettling : (process : ℕ) (settings : List ℕ) (elected placed : ℕ) → Deed Q P
  -- a server executes requests of a shard, whose record it read at the first revision, and this head at the second
  Executing : (shard server : ℕ) (items : List (Item Q)) (head : Head) (stood logged : ℕ) → Deed Q P
  -- a server writes a part of the base of this many batches
  Basing : (shard number place : ℕ) (part : P) → Deed Q P
  -- a head that was read at this revision now names the base of this many batches, in this many parts
  Naming : (shard : ℕ) (head : Head) (number parts logged : ℕ) → Deed Q P
  -- batches and parts that a newer base replaces are deleted
  Clearing : (keys : List PassingKey) → Deed Q P
  -- a process says up to which revision its server has read, and which records it acks; it wrote the server's key last
  -- at the revision `told`, which is 0 as it joins
  Following : (server revision : ℕ) (acks : List Ack) (told : ℕ) → Deed Q P
  -- a transaction only compares
  Checking : (compares : List Compare) → Deed Q P
  -- something else is written
  Foreign : Deed Q P

-- a compare of a key with a revision
abbrev pub at : StoreKey → ℕ → Compare
at key revision = record { key = key; revision = revision }

-- the compares of each command: the leader, and all records and states
abbrev pub command_compares : ℕ → ℕ → List Compare
command_compares elected placed = at leader_key elected ∷ at placement_key placed ∷ []

-- the further compares of a step to this state: if the server is said to have failed, its key must not be there,
-- because a server that is back under a new lease by then must not be given up
abbrev pub absence_compares : ℕ → ServerState → List Compare
absence_compares server Failed = at (server_key server) 0 ∷ []
absence_compares server _ = []

-- the transaction of a deed
abbrev pub transaction_of : {Q P : Type 0} → Deed Q P → Transaction Q P
transaction_of (Electing process) = unmade [] (Leads process ∷ [])
transaction_of (Expiring keys) = unmade [] (Deletes keys ∷ [])
transaction_of (Changing process shard change next elected placed) =
    unmade (command_compares elected placed) (Stands process shard change next ∷ Commands process ∷ [])
transaction_of (Restarting process server run elected placed) =
    unmade (command_compares elected placed ++ absence_compares server run.state)
    (Enters process server run ∷ Commands process ∷ [])
transaction_of (Settling settings) = unmade (at settings_key 0 ∷ []) (Settles settings ∷ [])
transaction_of (Resettling process settings elected placed) =
    unmade (command_compares elected placed) (Settles settings ∷ Commands process ∷ [])
transaction_of (Executing shard server items head stood logged) =
    unmade (at (record_key shard) stood ∷ at (head_key shard) logged ∷ [])
    (Heads shard (record { batches = head.batches + 1; base = head.base; parts = head.parts })
    ∷ Executes shard (head.batches + 1) server items ∷ [])
transaction_of (Basing shard number place part) = unmade [] (Bases shard number place part ∷ [])
transaction_of (Naming shard head number parts logged) =
    unmade (at (head_key shard) logged ∷ [])
    (Heads shard (record { batches = head.batches; base = number; parts = parts }) ∷ [])
transaction_of (Clearing keys) = unmade [] (Deletes keys ∷ [])
transaction_of (Following server revision acks told) =
    unmade (at (server_key server) told ∷ []) (Follows server revision ∷ Acks server acks ∷ [])
transaction_of (Checking compares) = unmade compares []
transaction_of Foreign = unmade [] (Elsewhere ∷ [])

-- the deed's transaction, as the store makes it at this revision
abbrev pub done_at : {Q P : Type 0} → ℕ → Deed Q P → Transaction Q P
done_at revision deed = made_at revision (transaction_of deed)

-- at some moment the view had this value, and its key was last written at this revision
pub record WasFound {Q P A : Type 0} (view : List (Transaction Q P) → A) (key : StoreKey)
    (log : List (Transaction Q P)) (value : A) (revision : ℕ) : Type 0 where
  pub later : List (Transaction Q P)
  pub past : List (Transaction Q P)
  pub is : log ≡ later ++ past
  pub at : revision_of key past ≡ revision
  pub was : view past ≡ value

-- these were read at one moment, at which the key of commands was last written at this revision
abbrev pub HasFooting : {Q P : Type 0} → (List ℕ → Option ControlSettings) → List (Transaction Q P) → Placement
    → ControlSettings → ℕ → Type 0
HasFooting reading log read settings placed =
    WasFound (footing_of reading) placement_key log (record { placement = read; settings = Some settings }) placed

-- a shard's head, and the requests that are made
pub record ShardLog (Q : Type 0) : Type 0 where
  pub head : Head
  pub items : List (Item Q)

-- a shard's head and requests in a store
abbrev pub shard_log : {Q P : Type 0} → ℕ → List (Transaction Q P) → ShardLog Q
shard_log shard log = record { head = head_of shard log; items = made shard log }

-- the record accepts this server for each of the requests, and the number of each comes next
pub record AreAccepted {Q : Type 0} (state : Record) (server : ℕ) (before items : List (Item Q)) : Type 0 where
  pub accepted : AllByRecursion (λ item. IsTrue (accepts state server item.mode)) items
  pub next : AreNext before items

-- the control may make the change
pub record IsChanged (ceiling : ℕ) (state : Record) (change : Change) (next : Record) : Type 0 where
  pub fits : IsTrue (change_fits ceiling state 0 change)
  pub is : next ≡ after_change state change

-- the state may come after the one before, for that process: the process began no earlier than the one before, and
-- later if the server was stopped and is up again; and if the server is stopped, a process must be named
abbrev pub is_next_run : ServerRun → ServerRun → Bool
is_next_run before next =
    nat_le before.process next.process
    && ((if is_stopped before.state && is_up next.state then nat_lt before.process next.process else true)
    && (if is_stopped next.state then nat_lt 0 next.process else true))

-- a server's state, and the process that it names, among all that was read
abbrev pub read_run : Placement → ℕ → ServerRun
read_run placement server = record { state = placement.states server; process = placement.processes server }

-- the key lies under a lease, and is deleted when the lease ends
abbrev pub is_leased : PassingKey → Bool
is_leased Leader = true
is_leased (Server server) = true
is_leased (AckKey shard server) = true
is_leased _ = false

-- the process has read that it leads
pub record HasLed {Q P : Type 0} (log : List (Transaction Q P)) (process elected : ℕ) : Type 0 where
  pub was_elected : 0 < elected
  pub leads : WasFound leader_of leader_key log process elected

-- the process has read that it leads, and at one moment all records and states, and the settings. These allow the
-- change, and the server that the change must wait for has let go
pub record MayChange {Q P : Type 0} (charter : Charter Q P) (log : List (Transaction Q P)) (process shard : ℕ)
    (change : Change) (next : Record)
    (elected placed : ℕ) : Type 0 where
  pub within : shard < charter.count
  pub led : HasLed log process elected
  pub read : Placement
  pub settings : ControlSettings
  pub footing : HasFooting charter.settings log read settings placed
  pub allowed : IsTrue (charter.allows_change settings read shard change)
  pub changed : IsChanged charter.ceiling (read.records shard) change next
  pub waited : IsTrue charter.waits → HasWaited log read shard change

-- the process has read the same, and the settings allow the step of a restart, for a process that may be named then; a
-- server that is to be stopped must have let go of each shard that is paused for it
pub record MayRestart {Q P : Type 0} (charter : Charter Q P) (log : List (Transaction Q P)) (process server : ℕ)
    (run : ServerRun) (elected placed : ℕ) : Type 0 where
  pub led : HasLed log process elected
  pub read : Placement
  pub settings : ControlSettings
  pub footing : HasFooting charter.settings log read settings placed
  pub allowed : IsTrue (charter.allows_state settings read server run.state)
  pub next : IsTrue (is_next_run (read_run read server) run)
  pub waited : IsTrue charter.waits → run.state ≡ Stopped → HaveLetGo log read charter.count server

-- the process has read the same, and has other settings that may come in place of these
pub record MayResettle {Q P : Type 0} (charter : Charter Q P) (log : List (Transaction Q P)) (process : ℕ)
    (settings : List ℕ) (elected placed : ℕ) : Type 0 where
  pub led : HasLed log process elected
  pub read : Placement
  pub old : ControlSettings
  pub footing : HasFooting charter.settings log read old placed
  pub new : ControlSettings
  pub new_are : charter.settings settings ≡ Some new
  pub replaces : MayReplace read old new

-- the server has read the record, the head and the requests
pub record MayExecute {Q P : Type 0} (charter : Charter Q P) (log : List (Transaction Q P)) (shard server : ℕ)
    (items : List (Item Q)) (head : Head)
    (stood logged : ℕ) : Type 0 where
  pub within : shard < charter.count
  pub named : server ≢ 0
  pub state : Record
  pub record_was : WasFound (stored_record shard) (record_key shard) log state stood
  pub before : List (Item Q)
  pub log_was : WasFound (shard_log shard) (head_key shard) log (record { head = head; items = before }) logged
  pub accepted : AreAccepted state server before items

-- the process has read the requests of this many batches
pub record HasRequests {Q P : Type 0} (log : List (Transaction Q P)) (shard number : ℕ)
    (items : List (Item Q)) : Type 0 where
  pub head : Head
  pub revision : ℕ
  pub log_was : WasFound (shard_log shard) (head_key shard) log (record { head = head; items = items }) revision
  pub all : head.batches ≡ number

-- the server has read the requests of this many batches, and this is a part of their base
pub record MayBase {Q P : Type 0} (charter : Charter Q P) (log : List (Transaction Q P)) (shard number place : ℕ)
    (part : P) : Type 0 where
  pub items : List (Item Q)
  pub requests : HasRequests log shard number items
  pub is : slice_get (charter.parts items) place ≡ Some part

-- the server has read a head with an older base, and that each part of this base is there
pub record MayName {Q P : Type 0} (charter : Charter Q P) (log : List (Transaction Q P)) (shard : ℕ) (head : Head)
    (number parts logged : ℕ) : Type 0 where
  pub head_was : WasFound (head_of shard) (head_key shard) log head logged
  pub newer : head.base < number
  pub items : List (Item Q)
  pub requests : HasRequests log shard number items
  pub all : parts ≡ length (charter.parts items)
  pub there : (place : ℕ) → place < parts → (part : P) × (revision : ℕ)
      × WasFound (part_at shard number place) (part_key shard number place) log (Some part) revision

-- the process has read a head whose base includes the batch, or is newer than the part
abbrev pub MayClear : {Q P : Type 0} → Charter Q P → List (Transaction Q P) → PassingKey → Type 0
MayClear charter log (Batch shard number) =
    (head : Head) × (revision : ℕ) × WasFound (head_of shard) (head_key shard) log head revision
    × (number ≤ head.base)
MayClear charter log (Part shard number place) =
    (head : Head) × (revision : ℕ) × WasFound (head_of shard) (head_key shard) log head revision
    × (number < head.base)
MayClear charter log _ = ⊥

-- the server has read a record of the shard by which it may let go
pub record MayAck {Q P : Type 0} (log : List (Transaction Q P)) (server : ℕ) (ack : Ack) : Type 0 where
  pub state : Record
  pub stood : ℕ
  pub record_was : WasFound (stored_record ack.shard) (record_key ack.shard) log state stood
  pub lets : MayLetGo server ack.generation state

-- a process may do this. The rule leaves to others who is elected, when a lease ends, and which other values are
-- written
abbrev pub MayDo : {Q P : Type 0} → Charter Q P → List (Transaction Q P) → Deed Q P → Type 0
MayDo charter log (Expiring keys) = AllByRecursion (λ key. IsTrue (is_leased key)) keys
MayDo charter log (Changing process shard change next elected placed) =
    MayChange charter log process shard change next elected placed
MayDo charter log (Restarting process server run elected placed) =
    MayRestart charter log process server run elected placed
MayDo charter log (Resettling process settings elected placed) =
    MayResettle charter log process settings elected placed
MayDo charter log (Executing shard server items head stood logged) =
    MayExecute charter log shard server items head stood logged
MayDo charter log (Basing shard number place part) = MayBase charter log shard number place part
MayDo charter log (Naming shard head number parts logged) = MayName charter log shard head number parts logged
MayDo charter log (Clearing keys) = AllByRecursion (MayClear charter log) keys
MayDo charter log (Following server revision acks told) = AllByRecursion (MayAck log server) acks
MayDo charter log _ = Unit {0}

-- the sent transaction is the transaction of a deed that the process may do
pub record MaySend {Q P : Type 0} (charter : Charter Q P) (log : List (Transaction Q P))
    (txn : Transaction Q P) : Type 0 where
  pub deed : Deed Q P
  pub is : txn ≡ transaction_of deed
  pub may : MayDo charter log deed

-- the transaction was one that might be sent, and was made because its compares held, at a revision above those before
-- it
pub record WasHonest {Q P : Type 0} (charter : Charter Q P) (log : List (Transaction Q P))
    (txn : Transaction Q P) : Type 0 where
  pub above : last_revision log < txn.revision
  pub held : IsTrue (all_hold log txn.compares)
  pub sent : Transaction Q P
  pub is : txn ≡ made_at txn.revision sent
  pub may : MaySend charter log sent

-- each transaction was honest at the store before it
abbrev pub IsHonest : {Q P : Type 0} → Charter Q P → List (Transaction Q P) → Type 0
IsHonest charter [] = Unit {0}
IsHonest charter (txn ∷ earlier) = WasHonest charter earlier txn × IsHonest charter earlier

-- below, `log` is the store before the deed

-- the leader makes the change, the rule allows it for the record, and the settings in force allow it by all records and
-- states. If commands must wait, then `AddShard`, `Reassign`, and `Cancel` once the owner forwards, wait until the
-- server that gives up has acked or failed
pub record IsRightChange {Q P : Type 0} (charter : Charter Q P) (log : List (Transaction Q P)) (process shard : ℕ)
    (change : Change)
    (next : Record) : Type 0 where
  pub within : shard < charter.count
  pub leads : leader_of log ≡ process
  pub settings : ControlSettings
  pub settings_are : in_force charter.settings log ≡ Some settings
  pub allowed : IsTrue (charter.allows_change settings (placement_of log) shard change)
  pub changed : IsChanged charter.ceiling (stored_record shard log) change next
  pub waited : IsTrue charter.waits → HasWaited log (placement_of log) shard change

-- the leader makes the step of a restart, and the settings in force allow it by all records and states, for a process
-- that may be named then. A server is said to have failed only while its key isn't there. If commands must wait, a
-- server is stopped only after it has let go of each shard that is paused for it
pub record IsRightRestart {Q P : Type 0} (charter : Charter Q P) (log : List (Transaction Q P)) (process server : ℕ)
    (run : ServerRun) : Type 0 where
  pub leads : leader_of log ≡ process
  pub settings : ControlSettings
  pub settings_are : in_force charter.settings log ≡ Some settings
  pub allowed : IsTrue (charter.allows_state settings (placement_of log) server run.state)
  pub next : IsTrue (is_next_run (stored_run server log) run)
  pub absent : run.state ≡ Failed → revision_of (server_key server) log ≡ 0
  pub waited : IsTrue charter.waits → run.state ≡ Stopped → HaveLetGo log (placement_of log) charter.count server

-- the leader writes the settings, and they may come in place of the settings in force
pub record IsRightResettling {Q P : Type 0} (charter : Charter Q P) (log : List (Transaction Q P)) (process : ℕ)
    (settings : List ℕ) : Type 0 where
  pub leads : leader_of log ≡ process
  pub old : ControlSettings
  pub old_are : in_force charter.settings log ≡ Some old
  pub new : ControlSettings
  pub new_are : charter.settings settings ≡ Some new
  pub replaces : MayReplace (placement_of log) old new

-- the record accepts the server that executes the requests, and the requests come next in the log
pub record IsRightBatch {Q P : Type 0} (charter : Charter Q P) (log : List (Transaction Q P)) (shard server : ℕ)
    (items : List (Item Q))
    (head : Head) : Type 0 where
  pub within : shard < charter.count
  pub named : server ≢ 0
  pub accepted : AreAccepted (stored_record shard log) server (made shard log) items
  pub head_is : head_of shard log ≡ head

-- the part belongs to the base of this many first batches of the shard
pub record IsRightPart {Q P : Type 0} (charter : Charter Q P) (log : List (Transaction Q P)) (shard number place : ℕ)
    (part : P) : Type 0 where
  pub within : number ≤ (head_of shard log).batches
  pub is : slice_get (charter.parts (made_until shard number log)) place ≡ Some part

-- the base is newer than the one before, and lies there whole
pub record IsRightBase {Q P : Type 0} (charter : Charter Q P) (log : List (Transaction Q P)) (shard : ℕ) (head : Head)
    (number parts : ℕ) : Type 0 where
  pub head_is : head_of shard log ≡ head
  pub newer : head.base < number
  pub within : number ≤ head.batches
  pub all : parts ≡ length (charter.parts (made_until shard number log))
  pub there : (place : ℕ) → place < parts
      → part_at shard number place log ≡ slice_get (charter.parts (made_until shard number log)) place

-- the base includes the batch, or is newer than the part
abbrev pub IsBehind : {Q P : Type 0} → Charter Q P → List (Transaction Q P) → PassingKey → Type 0
IsBehind charter log (Batch shard number) = number ≤ (head_of shard log).base
IsBehind charter log (Part shard number place) = number < (head_of shard log).base
IsBehind charter log _ = ⊥

-- a server writes over its own key as it wrote it last, and it acks no record by which it executes
pub record IsRightFollow {Q P : Type 0} (log : List (Transaction Q P)) (server : ℕ) (acks : List Ack)
    (told : ℕ) : Type 0 where
  pub compared : revision_of (server_key server) log ≡ told
  pub lets : AllByRecursion (λ ack. MayLetGo server ack.generation (stored_record ack.shard log)) acks

-- the deed is right for the store as it is
abbrev pub IsRight : {Q P : Type 0} → Charter Q P → List (Transaction Q P) → Deed Q P → Type 0
IsRight charter log (Expiring keys) = AllByRecursion (λ key. IsTrue (is_leased key)) keys
IsRight charter log (Changing process shard change next elected placed) =
    IsRightChange charter log process shard change next
IsRight charter log (Restarting process server run elected placed) = IsRightRestart charter log process server run
IsRight charter log (Settling settings) = stored_settings log ≡ None
IsRight charter log (Resettling process settings elected placed) = IsRightResettling charter log process settings
IsRight charter log (Executing shard server items head stood logged) = IsRightBatch charter log shard server items head
IsRight charter log (Basing shard number place part) = IsRightPart charter log shard number place part
IsRight charter log (Naming shard head number parts logged) = IsRightBase charter log shard head number parts
IsRight charter log (Clearing keys) = AllByRecursion (IsBehind charter log) keys
IsRight charter log (Following server revision acks told) = IsRightFollow log server acks told
IsRight charter log _ = Unit {0}

-- the transaction belongs to a deed that is right, at a revision above those before it
pub record WasRight {Q P : Type 0} (charter : Charter Q P) (log : List (Transaction Q P))
    (txn : Transaction Q P) : Type 0 where
  pub above : last_revision log < txn.revision
  pub deed : Deed Q P
  pub is : txn ≡ done_at txn.revision deed
  pub right : IsRight charter log deed

-- each transaction was right for the store before it
abbrev pub AreRight : {Q P : Type 0} → Charter Q P → List (Transaction Q P) → Type 0
AreRight charter [] = Unit {0}
AreRight charter (txn ∷ earlier) = WasRight charter earlier txn × AreRight charter earlier

-- the transaction doesn't change the settings that were written, or the leader replaces them by it
abbrev pub StayOrAreReplaced : {Q P : Type 0} → Charter Q P → List (Transaction Q P) → Transaction Q P → Type 0
StayOrAreReplaced {Q = Q} {P = P} charter past txn =
    (stored_settings (txn ∷ past) ≡ stored_settings past)
    ⊎ ((process : ℕ) × (settings : List ℕ) × (stored_settings (txn ∷ past) ≡ Some settings)
    × IsRightResettling charter past process settings)
