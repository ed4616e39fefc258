-- The store: its transactions, the latest first, and the values after them. Each has its own revision, and revisions
-- rise along the log.
use Rattle.std.specs.Prelude.{ℕ, Bool, true, false, Option, Some, None, nat_lt, ◌==◌, ◌&&◌, ◌<◌, List, [], ◌∷◌, ◌++◌}
use Rattle.std.specs.Prelude.{if◌then◌else◌, max}
use Rattle.std.specs.List.{list_all, list_any}
use Rattle.sm_ownership.specs.declared.change.Change.{Change}
use Rattle.sm_ownership.specs.declared.record.Record.{Record}
use Rattle.sm_ownership.specs.History.{vacant}
use Rattle.sm_place.specs.declared.server_state.ServerState.{ServerState}
use Rattle.sm_place.specs.declared.server_state.ServerState.TheVariants.{Up}
use Rattle.sm_store.specs.declared.compare.Compare.{Compare}
use Rattle.sm_store.specs.declared.head.Head.{Head}
use Rattle.sm_store.specs.declared.item.Item.{Item}
use Rattle.sm_store.specs.declared.server_run.ServerRun.{ServerRun}
use Rattle.sm_store.specs.declared.store_key.LastingKey.{LastingKey}
use Rattle.sm_store.specs.declared.store_key.LastingKey.TheVariants.{Record as RecordKey, Head as HeadKey}
use Rattle.sm_store.specs.declared.store_key.LastingKey.TheVariants.{State as StateKey, Placement as PlacementKey}
use Rattle.sm_store.specs.declared.store_key.LastingKey.TheVariants.{Settings as SettingsKey}
use Rattle.sm_store.specs.declared.store_key.PassingKey.{PassingKey}
use Rattle.sm_store.specs.declared.store_key.PassingKey.TheVariants.{Leader, Server, Ack as AckKey, Batch, Part, Other}
use Rattle.sm_store.specs.declared.store_key.StoreKey.{StoreKey}
use Rattle.sm_store.specs.declared.store_key.StoreKey.TheVariants.{Lasting, Passing}

-- for a shard: a process has let go of its records up to this generation, or is prepared for the latest of them
pub record Ack : Type 0 where
  pub shard : ℕ
  pub generation : ℕ

-- a write of a transaction: to one key, or to the keys of acks, or a deletion of keys
pub data Write (Q P : Type 0) : Type 0 where
  -- a process leads
  Leads : (process : ℕ) → Write Q P
  -- a shard's record becomes this one, by a change that this process makes
  Stands : (process shard : ℕ) (change : Change) (next : Record) → Write Q P
  -- a server's state becomes this one, and it names a process of the server, by a step of its restart that this process
  -- makes
  Enters : (process server : ℕ) (run : ServerRun) → Write Q P
  -- this process made a command
  Commands : (process : ℕ) → Write Q P
  -- these are the settings
  Settles : (settings : List ℕ) → Write Q P
  -- the head of a shard's log becomes this one
  Heads : (shard : ℕ) (head : Head) → Write Q P
  -- the shard's batch of this number holds these requests, which this server executed
  Executes : (shard number server : ℕ) (items : List (Item Q)) → Write Q P
  -- the shard's base of this many batches has this part at this place
  Bases : (shard number place : ℕ) (part : P) → Write Q P
  -- a server is there, and has read the store up to this revision
  Follows : (server revision : ℕ) → Write Q P
  -- a server acks
  Acks : (server : ℕ) (acks : List Ack) → Write Q P
  -- these keys are deleted
  Deletes : (keys : List PassingKey) → Write Q P
  -- something else is written
  Elsewhere : Write Q P

-- a transaction is made as a whole if each compare holds, and otherwise not at all; the store gives it its revision
-- then, and before that its revision is 0
pub record Transaction (Q P : Type 0) : Type 0 where
  pub revision : ℕ
  pub compares : List Compare
  pub writes : List (Write Q P)

-- a transaction that the store hasn't made
abbrev pub unmade : {Q P : Type 0} → List Compare → List (Write Q P) → Transaction Q P
unmade compares writes = record { revision = 0; compares = compares; writes = writes }

-- the same, as the store makes it at this revision
abbrev pub made_at : {Q P : Type 0} → ℕ → Transaction Q P → Transaction Q P
made_at revision txn = record { revision = revision; compares = txn.compares; writes = txn.writes }

-- the revision of the latest transaction, or 0 if there is none
abbrev pub last_revision : {Q P : Type 0} → List (Transaction Q P) → ℕ
last_revision [] = 0
last_revision (txn ∷ earlier) = txn.revision

-- each transaction has a revision above that of the one before it. It need not be the next one, because the store's
-- revision also rises by transactions that aren't in this log
abbrev pub IsRising : {Q P : Type 0} → List (Transaction Q P) → Type 0
IsRising [] = Unit {0}
IsRising (txn ∷ earlier) = (last_revision earlier < txn.revision) × IsRising earlier

-- the key of the leader
abbrev pub leader_key : StoreKey
leader_key = Passing Leader

-- the key of a shard's record
abbrev pub record_key : ℕ → StoreKey
record_key shard = Lasting (RecordKey shard)

-- the key of the head of a shard's log
abbrev pub head_key : ℕ → StoreKey
head_key shard = Lasting (HeadKey shard)

-- the key of a server's state
abbrev pub state_key : ℕ → StoreKey
state_key server = Lasting (StateKey server)

-- the key that each command writes
abbrev pub placement_key : StoreKey
placement_key = Lasting PlacementKey

-- the key of the settings
abbrev pub settings_key : StoreKey
settings_key = Lasting SettingsKey

-- the key of a server, which lies there under its lease
abbrev pub server_key : ℕ → StoreKey
server_key server = Passing (Server server)

-- the key of a shard's batch of this number
abbrev pub batch_key : ℕ → ℕ → StoreKey
batch_key shard number = Passing (Batch shard number)

-- the key of a part of a base
abbrev pub part_key : ℕ → ℕ → ℕ → StoreKey
part_key shard number place = Passing (Part shard number place)

-- two keys that are never deleted are the same
abbrev pub same_lasting : LastingKey → LastingKey → Bool
same_lasting (RecordKey a) (RecordKey b) = a == b
same_lasting (HeadKey a) (HeadKey b) = a == b
same_lasting (StateKey a) (StateKey b) = a == b
same_lasting PlacementKey PlacementKey = true
same_lasting SettingsKey SettingsKey = true
same_lasting _ _ = false

-- two keys that may be deleted are the same
abbrev pub same_passing : PassingKey → PassingKey → Bool
same_passing Leader Leader = true
same_passing (Server a) (Server b) = a == b
same_passing (AckKey a s) (AckKey b t) = a == b && s == t
same_passing (Batch a m) (Batch b n) = a == b && m == n
same_passing (Part a m i) (Part b n j) = a == b && (m == n && i == j)
same_passing Other Other = true
same_passing _ _ = false

-- two keys are the same
abbrev pub same_store_key : StoreKey → StoreKey → Bool
same_store_key (Lasting a) (Lasting b) = same_lasting a b
same_store_key (Passing a) (Passing b) = same_passing a b
same_store_key _ _ = false

-- the key belongs to one of the server's acks
abbrev pub acks_key : ℕ → List Ack → StoreKey → Bool
acks_key server acks (Passing (AckKey shard by)) = by == server && list_any (λ ack. ack.shard == shard) acks
acks_key server acks _ = false

-- the write is a write of this key
abbrev pub is_write_of : {Q P : Type 0} → StoreKey → Write Q P → Bool
is_write_of key (Leads process) = same_store_key leader_key key
is_write_of key (Stands process shard change next) = same_store_key (record_key shard) key
is_write_of key (Enters process server run) = same_store_key (state_key server) key
is_write_of key (Commands process) = same_store_key placement_key key
is_write_of key (Settles settings) = same_store_key settings_key key
is_write_of key (Heads shard head) = same_store_key (head_key shard) key
is_write_of key (Executes shard number server items) = same_store_key (batch_key shard number) key
is_write_of key (Bases shard number place part) = same_store_key (part_key shard number place) key
is_write_of key (Follows server revision) = same_store_key (server_key server) key
is_write_of key (Acks server acks) = acks_key server acks key
is_write_of key (Deletes keys) = list_any (λ one. same_store_key (Passing one) key) keys
is_write_of key Elsewhere = same_store_key (Passing Other) key

-- the write deletes its keys
abbrev pub is_deletion : {Q P : Type 0} → Write Q P → Bool
is_deletion (Deletes keys) = true
is_deletion _ = false

-- a deletion of these keys deletes this key
abbrev pub deletes_key : List PassingKey → PassingKey → Bool
deletes_key keys key = list_any (λ one. same_passing one key) keys

-- a value after the writes, one after the other
abbrev pub left_by : {A W : Type 0} → (A → W → A) → A → List W → A
left_by one before [] = before
left_by one before (write ∷ writes) = left_by one (one before write) writes

-- the revision of the key after a write of it, or none if the write deletes it
abbrev pub revised : {Q P : Type 0} → StoreKey → ℕ → ℕ → Write Q P → ℕ
revised key now before write =
    if is_write_of key write then (if is_deletion write then 0 else now) else before

-- the revision at which the key was last written, or 0 if it isn't there
abbrev pub revision_of : {Q P : Type 0} → StoreKey → List (Transaction Q P) → ℕ
revision_of key [] = 0
revision_of key (txn ∷ earlier) = left_by (revised key txn.revision) (revision_of key earlier) txn.writes

-- each compare holds
abbrev pub all_hold : {Q P : Type 0} → List (Transaction Q P) → List Compare → Bool
all_hold log compares = list_all (λ compare. revision_of compare.key log == compare.revision) compares

-- a value after the transactions, by how each write changes it
abbrev pub view_from : {A Q P : Type 0} → (A → Write Q P → A) → A → List (Transaction Q P) → A
view_from one start [] = start
view_from one start (txn ∷ earlier) = left_by one (view_from one start earlier) txn.writes

-- the leader after a write, or 0 if there is none
abbrev pub led : {Q P : Type 0} → ℕ → Write Q P → ℕ
led before (Leads process) = process
led before (Deletes keys) = if deletes_key keys Leader then 0 else before
led before _ = before

-- the leader, or 0 if there is none
abbrev pub leader_of : {Q P : Type 0} → List (Transaction Q P) → ℕ
leader_of log = view_from led 0 log

-- a shard's record after a write
abbrev pub stood : {Q P : Type 0} → ℕ → Record → Write Q P → Record
stood shard before (Stands process at change next) = if at == shard then next else before
stood shard before _ = before

-- the record of a shard
abbrev pub stored_record : {Q P : Type 0} → ℕ → List (Transaction Q P) → Record
stored_record shard log = view_from (stood shard) vacant log

-- how a server runs after a write
abbrev pub entered : {Q P : Type 0} → ℕ → ServerRun → Write Q P → ServerRun
entered server before (Enters process at run) = if at == server then run else before
entered server before _ = before

-- the state of a server, and the process that it names
abbrev pub stored_run : {Q P : Type 0} → ℕ → List (Transaction Q P) → ServerRun
stored_run server log = view_from (entered server) (record { state = Up; process = 0 }) log

-- the state of a server
abbrev pub stored_state : {Q P : Type 0} → ℕ → List (Transaction Q P) → ServerState
stored_state server log = (stored_run server log).state

-- the process that a server's state names, or 0 if it names none
abbrev pub stored_process : {Q P : Type 0} → ℕ → List (Transaction Q P) → ℕ
stored_process server log = (stored_run server log).process

-- the records and states on which a command rests: the record of each shard, and the state of each server, with the
-- process that it names
pub record Placement : Type 0 where
  pub records : ℕ → Record
  pub states : ℕ → ServerState
  pub processes : ℕ → ℕ

-- the records and states
abbrev pub placement_of : {Q P : Type 0} → List (Transaction Q P) → Placement
placement_of log =
    record {
      records = λ shard. stored_record shard log;
      states = λ server. stored_state server log;
      processes = λ server. stored_process server log;
    }

-- the greatest generation among this one and these acks of the shard
abbrev pub acked_among : ℕ → List Ack → ℕ → ℕ
acked_among shard [] generation = generation
acked_among shard (ack ∷ acks) generation =
    if ack.shard == shard then max ack.generation (acked_among shard acks generation)
    else acked_among shard acks generation

-- the greatest generation up to which a server has acked a shard, after a write: an ack that was made counts forever
abbrev pub acked : {Q P : Type 0} → ℕ → ℕ → ℕ → Write Q P → ℕ
acked shard server before (Acks by acks) = if by == server then acked_among shard acks before else before
acked shard server before _ = before

-- the greatest generation up to which any process of the server has acked the shard, even if its lease has ended since
abbrev pub acked_of : {Q P : Type 0} → ℕ → ℕ → List (Transaction Q P) → ℕ
acked_of shard server log = view_from (acked shard server) 0 log

-- the settings after a write
abbrev pub settled : {Q P : Type 0} → Option (List ℕ) → Write Q P → Option (List ℕ)
settled before (Settles settings) = Some settings
settled before _ = before

-- the settings, if they were written
abbrev pub stored_settings : {Q P : Type 0} → List (Transaction Q P) → Option (List ℕ)
stored_settings log = view_from settled None log

-- the head of a shard's log after a write
abbrev pub headed : {Q P : Type 0} → ℕ → Head → Write Q P → Head
headed shard before (Heads at head) = if at == shard then head else before
headed shard before _ = before

-- the head of a shard's log
abbrev pub head_of : {Q P : Type 0} → ℕ → List (Transaction Q P) → Head
head_of shard log = view_from (headed shard) (record { batches = 0; base = 0; parts = 0 }) log

-- the batch at a number after a write
abbrev pub batched : {Q P : Type 0} → ℕ → ℕ → Option (List (Item Q)) → Write Q P → Option (List (Item Q))
batched shard number before (Executes at n server items) = if at == shard && n == number then Some items else before
batched shard number before (Deletes keys) = if deletes_key keys (Batch shard number) then None else before
batched shard number before _ = before

-- the batch at a number
abbrev pub batch_at : {Q P : Type 0} → ℕ → ℕ → List (Transaction Q P) → Option (List (Item Q))
batch_at shard number log = view_from (batched shard number) None log

-- the part of a base at a place after a write
abbrev pub based_on : {Q P : Type 0} → ℕ → ℕ → ℕ → Option P → Write Q P → Option P
based_on shard number place before (Bases at n i part) =
    if at == shard && (n == number && i == place) then Some part else before
based_on shard number place before (Deletes keys) = if deletes_key keys (Part shard number place) then None else before
based_on shard number place before _ = before

-- the part of a base at a place
abbrev pub part_at : {Q P : Type 0} → ℕ → ℕ → ℕ → List (Transaction Q P) → Option P
part_at shard number place log = view_from (based_on shard number place) None log

-- a write of this key is among these
abbrev pub touches : {Q P : Type 0} → StoreKey → List (Write Q P) → Bool
touches key writes = list_any (λ write. is_write_of key write) writes

-- the requests of a shard in the batches among these writes
abbrev pub executed_by : {Q P : Type 0} → ℕ → List (Write Q P) → List (Item Q)
executed_by shard [] = []
executed_by shard (Executes at number server items ∷ writes) =
    (if at == shard then items else []) ++ executed_by shard writes
executed_by shard (_ ∷ writes) = executed_by shard writes

-- the requests of a shard that a transaction makes: the requests of a batch that is written together with the head of
-- the shard's log
abbrev pub made_by : {Q P : Type 0} → ℕ → List (Write Q P) → List (Item Q)
made_by shard writes = if touches (head_key shard) writes then executed_by shard writes else []

-- the requests of a shard that are made, in order
abbrev pub made : {Q P : Type 0} → ℕ → List (Transaction Q P) → List (Item Q)
made shard [] = []
made shard (txn ∷ earlier) = made shard earlier ++ made_by shard txn.writes

-- the requests of this many first batches of the shard
abbrev pub made_until : {Q P : Type 0} → ℕ → ℕ → List (Transaction Q P) → List (Item Q)
made_until shard number [] = []
made_until shard number (txn ∷ earlier) =
    if nat_lt (head_of shard earlier).batches number
    then made_until shard number earlier ++ made_by shard txn.writes
    else made_until shard number earlier
