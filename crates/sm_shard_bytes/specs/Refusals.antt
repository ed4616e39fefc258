-- Why a call on a server is refused, and the server's state then.
use Rattle.std.specs.Prelude.{ℕ, ◌≡◌, ◌≢◌, ◌<◌, ◌⊎◌, List, [], Option, Some, None}
use Rattle.sm_ranges.specs.ServerId.{IsServer}
use Rattle.sm_ranges.specs.ShardId.{IsShard}
use Rattle.sm_shard.specs.Bases.{Part}
use Rattle.sm_shard.specs.declared.replica.ReplayFault.{ReplayFault}
use Rattle.sm_shard.specs.declared.replica.ReplayFault.TheVariants as replays
use Rattle.sm_shard.specs.declared.shard_server.ShardServer.{ShardServer}
use Rattle.sm_shard.specs.ShardServers.{IsAsReady}
use Rattle.sm_shard_bytes.specs.declared.byte_server.ByteServer.{ByteServer}
use Rattle.sm_shard_bytes.specs.declared.codes.TheConstants as codes
use Rattle.sm_shard_bytes.specs.declared.server_fault.ServerFault.{ServerFault}
use Rattle.sm_shard_bytes.specs.declared.server_fault.ServerFault.TheVariants as faults

-- the code of a log that can't be followed
abbrev pub replay_code : ReplayFault → ℕ
replay_code replays.Memory = codes.NO_MEMORY
replay_code replays.Missing = codes.MISSING
replay_code replays.OutOfOrder = codes.BAD_LOG
replay_code replays.TooMany = codes.BAD_LOG
replay_code replays.Unreadable = codes.BAD_LOG
replay_code replays.UnknownShard = codes.BAD_LOG

-- the code of a fault
abbrev pub server_fault_code : ServerFault → ℕ
server_fault_code faults.Memory = codes.NO_MEMORY
server_fault_code (faults.Bytes fault) = codes.BAD_BYTES
server_fault_code faults.Reply = codes.BAD_BYTES
server_fault_code (faults.Replay fault) = replay_code fault
server_fault_code faults.Unread = codes.UNREAD
server_fault_code faults.TooLarge = codes.TOO_LARGE

-- the bytes are malformed, or memory was refused for them
abbrev pub IsOfBytes : ServerFault → Type 0
IsOfBytes faults.Memory = Unit {0}
IsOfBytes (faults.Bytes fault) = Unit {0}
IsOfBytes faults.Reply = Unit {0}
IsOfBytes _ = ⊥

-- memory was refused
abbrev pub IsOfMemory : ServerFault → Type 0
IsOfMemory fault = server_fault_code fault ≡ codes.NO_MEMORY

-- the log can't be followed, or memory was refused for that
abbrev pub IsOfLog : ServerFault → Type 0
IsOfLog fault = (why : ReplayFault) × (fault ≡ faults.Replay why)

-- the server of the same shard, in the same store, with the same limits
pub record IsSameShard {M Q R : Type 0} (old new : ShardServer M Q R) : Type 0 where
  pub me : new.me ≡ old.me
  pub shard : new.shard ≡ old.shard
  pub count : new.count ≡ old.count
  pub limits : new.limits ≡ old.limits

-- the readings that were added, and the answers, are as they were
pub record KeepsReadings {M R : Type 0} (old new : ByteServer M R) : Type 0 where
  pub parts : new.parts.items ≡ old.parts.items
  pub batches : new.batches.items ≡ old.batches.items
  pub made : new.made.items ≡ old.made.items
  pub read : new.read.items ≡ old.read.items

-- the batches that were added are dropped, of the parts these are left, and the answers are as they were
pub record DropsReadings {M R : Type 0} (left : List (Part R)) (old new : ByteServer M R) : Type 0 where
  pub parts : new.parts.items ≡ left
  pub batches : new.batches.items ≡ []
  pub made : new.made.items ≡ old.made.items
  pub read : new.read.items ≡ old.read.items

-- the fault is of the bytes, and the server is as it was
abbrev pub RefusesBytes : {M R : Type 0} → ServerFault → ByteServer M R → ByteServer M R → Type 0
RefusesBytes fault old new = IsOfBytes fault × (new.core ≡ old.core) × KeepsReadings old new

-- memory was refused, and the server is as it was
abbrev pub RefusesMemory : {M R : Type 0} → ServerFault → ByteServer M R → ByteServer M R → Type 0
RefusesMemory fault old new =
    IsOfMemory fault × IsSameShard old.core new.core × IsAsReady old.core.ready new.core.ready × KeepsReadings old new

-- the log can't be followed, and the server has read nothing
abbrev pub ForgetsLog : {M R : Type 0} → ServerFault → ByteServer M R → ByteServer M R → Type 0
ForgetsLog fault old new = IsOfLog fault × IsSameShard old.core new.core × (new.core.ready ≡ None)

-- a reading is refused: for its bytes, and the server knows what it knew; or for the log, and it has read nothing; the
-- readings are dropped, except for these parts
abbrev pub RefusesReading : {M R : Type 0} → List (Part R) → ServerFault → ByteServer M R → ByteServer M R → Type 0
RefusesReading left fault old new =
    DropsReadings left old new × ((IsOfBytes fault × (new.core ≡ old.core)) ⊎ ForgetsLog fault old new)

-- the same of a reading of all, which drops all
abbrev pub RefusesReadAll : {M R : Type 0} → ServerFault → ByteServer M R → ByteServer M R → Type 0
RefusesReadAll fault old new = RefusesReading [] fault old new

-- the same of a reading of later batches, which keeps the parts
abbrev pub RefusesAppend : {M R : Type 0} → ServerFault → ByteServer M R → ByteServer M R → Type 0
RefusesAppend fault old new = RefusesReading old.parts.items fault old new

-- the outcome of a transaction is refused for the log: the server has read nothing, and keeps its readings and answers
abbrev pub RefusesOutcome : {M R : Type 0} → ServerFault → ByteServer M R → ByteServer M R → Type 0
RefusesOutcome fault old new = ForgetsLog fault old new × KeepsReadings old new

-- the code is that of a fault that leaves the server so
abbrev pub RefusesForFault : {S : Type 0} → (ServerFault → S → S → Type 0) → ℕ → S → S → Type 0
RefusesForFault leaves code old new = (fault : ServerFault) × (code ≡ server_fault_code fault) × leaves fault old new

-- a request is refused without a decision: its server is out of range, or memory was refused; the server is as it was
abbrev pub RefusesRequest : {M R : Type 0} → ℕ → ℕ → ByteServer M R → ByteServer M R → Type 0
RefusesRequest from code old new =
    (((code ≡ codes.BAD_ARGUMENT) × (from ≢ 0) × (IsServer from → ⊥)) ⊎ (code ≡ codes.NO_MEMORY))
    × IsSameShard old.core new.core × IsAsReady old.core.ready new.core.ready × KeepsReadings old new

-- no server was made: its number is out of range, there is no such shard among so many, or memory was refused
abbrev pub IsUnmade : ℕ → ℕ → ℕ → ℕ → Type 0
IsUnmade me shard count code =
    ((code ≡ codes.BAD_ARGUMENT) × (IsServer me → ⊥))
    ⊎ ((code ≡ codes.UNKNOWN_SHARD) × (IsShard shard → shard < count → ⊥))
    ⊎ (code ≡ codes.NO_MEMORY)

-- the bytes are too many, or memory was refused for them
abbrev pub IsWithoutBytes : ServerFault → Type 0
IsWithoutBytes faults.Memory = Unit {0}
IsWithoutBytes faults.TooLarge = Unit {0}
IsWithoutBytes _ = ⊥

-- the server has read nothing, or its transaction has no bytes
abbrev pub CannotSend : {M R : Type 0} → ServerFault → ByteServer M R → Type 0
CannotSend faults.Unread server = server.core.ready ≡ None
CannotSend fault server = IsWithoutBytes fault

-- no transaction is written, for a fault with this code, or because there is no room for its bytes
abbrev pub RefusesSending : {M R : Type 0} → ℕ → ByteServer M R → Type 0
RefusesSending code server =
    ((fault : ServerFault) × (code ≡ server_fault_code fault) × CannotSend fault server) ⊎ (code ≡ codes.TOO_SHORT)

-- no part is written: there is none at this place, there is no room for its bytes, or it has none
abbrev pub RefusesPart : ℕ → Type 0
RefusesPart code =
    (code ≡ codes.NO_MORE) ⊎ (code ≡ codes.TOO_SHORT)
    ⊎ ((fault : ServerFault) × (code ≡ server_fault_code fault) × IsWithoutBytes fault)

-- the handle kept nothing, keeps nothing, and this is the code; or its state was left so
abbrev pub LeavesState : {S : Type 0} → (ℕ → S → S → Type 0) → ℕ → Option S → Option S → Type 0
LeavesState leaves code None None = code ≡ codes.WRONG_HANDLE
LeavesState leaves code (Some old) (Some new) = leaves code old new
LeavesState leaves code old new = ⊥

-- the handle keeps nothing, and this is the code; or this is why its state refuses
abbrev pub RefusesServer : {S : Type 0} → (ℕ → S → Type 0) → ℕ → Option S → Type 0
RefusesServer why code None = code ≡ codes.WRONG_HANDLE
RefusesServer why code (Some state) = why code state
