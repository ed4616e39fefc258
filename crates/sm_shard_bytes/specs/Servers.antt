-- The effects of calls on a server of a shard: each is a step of the protocol, from the decoded bytes that it was
-- given.
use Rattle.std.specs.Prelude.{ℕ, Bool, true, false, ◌≡◌, ◌+◌, ◌++◌, ◌∷◌, [], List, Option, Some, None, IfSome}
use Rattle.std.specs.Prelude.{Ok, if◌then◌else◌, length, slice_get}
use Rattle.std.specs.List.{AllByRecursion}
use Rattle.std.specs.Global.{Vec}
use Rattle.sm_ownership.specs.declared.record.Record.{Record}
use Rattle.sm_store.specs.Clients.{Automaton}
use Rattle.sm_store.specs.declared.head.Head.{Head}
use Rattle.sm_store.specs.declared.item.Item.{Item}
use Rattle.sm_store.specs.Deeds.{Charter, MaySend}
use Rattle.sm_store.specs.Store.{Transaction}
use Rattle.sm_codec.specs.Spelling.{batch_bytes, head_bytes, item_views, part_bytes, record_bytes}
use Rattle.sm_shard.specs.Bases.{Part, base_of}
use Rattle.sm_shard.specs.declared.base_work.NamedBase.{NamedBase}
use Rattle.sm_shard.specs.declared.shard_limits.ShardLimits.{ShardLimits}
use Rattle.sm_shard.specs.declared.shard_server.BatchSending.{BatchSending}
use Rattle.sm_shard.specs.declared.shard_server.PartsSending.{PartsSending}
use Rattle.sm_shard.specs.declared.shard_server.ShardServer.{ShardServer}
use Rattle.sm_shard.specs.declared.steps.ShardInput.{ShardInput}
use Rattle.sm_shard.specs.declared.steps.ShardInput.TheVariants.{Read, Record as RecordRead, Request, Question}
use Rattle.sm_shard.specs.declared.steps.ShardInput.TheVariants.{Append, Made}
use Rattle.sm_shard.specs.declared.steps.ShardOutput.{ShardOutput}
use Rattle.sm_shard.specs.declared.steps.ShardOutput.TheVariants.{Sends, Answers, Bases, Clears}
use Rattle.sm_shard.specs.ShardServers.{IsTrueOf, StoreLog, basing_by, parts_transactions, sending_transaction}
use Rattle.sm_shard.specs.ShardServers.{sent_transaction}
use Rattle.sm_shard.specs.Steps.{IsCaughtUp, IsOutputOf, IsStepOf, KeepsAsked}
use Rattle.sm_store.specs.declared.store_key.PassingKey.{PassingKey}
use Rattle.sm_store.specs.declared.store_key.PassingKey.TheVariants.{Batch, Part as PartKey}
use Rattle.sm_shard_bytes.specs.declared.part_numbers.PartNumbers.{PartNumbers}
use Rattle.sm_shard_bytes.specs.declared.sent_bytes.SentBytes.{SentBytes}
use Rattle.sm_shard_bytes.specs.declared.byte_server.ByteServer.{ByteServer}
use Rattle.sm_shard_bytes.specs.Replies.{part_text}

-- an input of a server whose requests are bytes
abbrev pub ByteInput : Type 0 → Type 0
ByteInput R = ShardInput (Vec ℕ) R

-- an output of it
abbrev pub ByteOutput : Type 0 → Type 0
ByteOutput R = ShardOutput (Vec ℕ) R

-- the service of such servers
abbrev pub ByteService : Type 0 → Type 0 → Type 0
ByteService M R = Automaton M (Vec ℕ) R

-- a server that has just started, of this shard among so many
abbrev pub IsNewServer : {M R : Type 0} → ByteService M R → ℕ → ℕ → ℕ → ShardLimits → ByteServer M R → Type 0
IsNewServer {R = R} service me shard count limits server =
    (server.core.me ≡ me) × (server.core.shard ≡ shard) × (server.core.count ≡ count)
    × (server.core.limits ≡ limits) × (server.parts.items ≡ []) × (server.batches.items ≡ [])
    × ((log : StoreLog (Vec ℕ) R) → IsTrueOf service log server.core)

-- the bytes that a request takes in a batch, if they are all that count
abbrev pub request_size : Vec ℕ → ℕ
request_size request = length request.items

-- on such an input it made a step of the protocol, with exactly this result
pub record StepsOn {M R : Type 0} (service : ByteService M R) (size : Vec ℕ → ℕ) (old : ByteServer M R)
    (is_input : ByteInput R → Type 0) (output : ByteOutput R) (new : ByteServer M R) : Type 0 where
  pub input : ByteInput R
  pub input_is : is_input input
  pub exact : IsOutputOf service size old.core input output
  pub call : IsStepOf service old.core input (Ok output) new.core
  pub asked_for : KeepsAsked old.core input (Ok output) new.core
  pub caught_up : IsCaughtUp old.core input new.core
  pub me : new.core.me ≡ old.core.me
  pub shard : new.core.shard ≡ old.core.shard
  pub count : new.core.count ≡ old.core.count
  pub limits : new.core.limits ≡ old.core.limits

-- it did, and such came of it
abbrev pub DoneOn : {M R : Type 0} → ByteService M R → (Vec ℕ → ℕ) → ByteServer M R → (ByteInput R → Type 0)
    → (ByteOutput R → Type 0) → ByteServer M R → Type 0
DoneOn {R = R} service size old is_input is_output new =
    (output : ByteOutput R) × is_output output × StepsOn service size old is_input output new

-- with any result
abbrev pub IsAny : {R : Type 0} → ByteOutput R → Type 0
IsAny output = Unit {0}

-- the bytes spell the batch that was added to those that were read
abbrev pub AddsBatch : List (Vec (Item (Vec ℕ))) → List ℕ → List (Vec (Item (Vec ℕ))) → Type 0
AddsBatch old bytes new =
    (batch : Vec (Item (Vec ℕ))) × (server : ℕ) × (new ≡ old ++ batch ∷ [])
    × (bytes ≡ batch_bytes (record { server = server; items = item_views batch.items }))

-- the bytes spell the part that was added to those that were read
abbrev pub AddsPart : {R : Type 0} → (R → List ℕ) → List (Part R) → List ℕ → List (Part R) → Type 0
AddsPart {R = R} spelled old bytes new =
    (part : Part R) × (new ≡ old ++ part ∷ []) × (bytes ≡ part_bytes (part_text spelled part))

-- the bytes spell the record
abbrev pub SpellsRecord : List ℕ → Record → Type 0
SpellsRecord bytes state = (process : ℕ) × (bytes ≡ record_bytes (record { state = state; process = process }))

-- the shard was read: its record and the head of its log by these bytes, at these revisions, the parts of its base and
-- the batches
abbrev pub IsReading : {M R : Type 0} → ByteServer M R → List ℕ → ℕ → List ℕ → ℕ → ByteInput R → Type 0
IsReading server record_text stood head_text logged (Read state stood' head logged' parts batches) =
    SpellsRecord record_text state × (stood' ≡ stood) × (head_text ≡ head_bytes head) × (logged' ≡ logged)
    × (parts.now ≡ server.parts.items) × (batches.now ≡ server.batches.items)
IsReading server record_text stood head_text logged input = ⊥

-- the shard was read from the end of the server's replica on: its record and the head of its log with these bytes, at
-- these revisions, and the batches after those that the server has
abbrev pub IsAppending : {M R : Type 0} → ByteServer M R → List ℕ → ℕ → List ℕ → ℕ → ByteInput R → Type 0
IsAppending server record_text stood head_text logged (Append state stood' head logged' batches) =
    SpellsRecord record_text state × (stood' ≡ stood) × (head_text ≡ head_bytes head) × (logged' ≡ logged)
    × (batches.now ≡ server.batches.items)
IsAppending server record_text stood head_text logged input = ⊥

-- only the shard's record was read
abbrev pub IsRecordReading : {R : Type 0} → List ℕ → ℕ → ByteInput R → Type 0
IsRecordReading record_text stood (RecordRead state stood') = SpellsRecord record_text state × (stood' ≡ stood)
IsRecordReading record_text stood input = ⊥

-- the request came, as one that is made or as one that only reads
abbrev pub IsComing : {R : Type 0} → Bool → Item (Vec ℕ) → ByteInput R → Type 0
IsComing reads item input = input ≡ (if reads then Question item else Request item)

-- it sends the waiting requests
abbrev pub is_sending : {R : Type 0} → ByteOutput R → Bool
is_sending Sends = true
is_sending output = false

-- it writes the parts of a base
abbrev pub is_basing : {R : Type 0} → ByteOutput R → Bool
is_basing Bases = true
is_basing output = false

-- it deletes the value at a key
abbrev pub is_clearing : {R : Type 0} → ByteOutput R → Bool
is_clearing (Clears key) = true
is_clearing output = false

-- the key of a batch of this number, or of a part of the base of this number
abbrev pub passing_key : ℕ → Bool → ℕ → ℕ → PassingKey
passing_key shard is_part number place = if is_part then PartKey shard number place else Batch shard number

-- the bytes are those of the part at this place of the base that the server makes, whose parts may be sent
pub record IsPartOf {M R : Type 0} (service : ByteService M R) (spelled_by : R → List ℕ) (server : ByteServer M R)
    (place : ℕ) (numbers : PartNumbers) (bytes : List ℕ) : Type 0 where
  pub sending : PartsSending R
  pub part : Part R
  pub found : slice_get sending.parts.now place ≡ Some part
  pub spelled : bytes ≡ part_bytes (part_text spelled_by part)
  pub number : numbers.number ≡ sending.number
  pub count : numbers.count ≡ length sending.parts.now
  pub length_is : numbers.length ≡ length bytes
  pub own : IfSome server.core.ready (λ ready.
      parts_transactions {Q = Vec ℕ} sending ≡ basing_by server.core.shard ready.work)
  pub may : (charter : Charter (Vec ℕ) (Part R)) (log : StoreLog (Vec ℕ) R)
      → charter.parts ≡ base_of service → IsTrueOf service log server.core
      → AllByRecursion (MaySend charter log) (parts_transactions sending)

-- the bytes that a server's transaction writes to the head of the log
abbrev pub head_written : List (Item (Vec ℕ)) → Option NamedBase → Head → List ℕ
head_written [] None head = []
head_written [] (Some base) head =
    head_bytes (record { batches = head.batches; base = base.number; parts = base.parts })
head_written (item ∷ items) base head =
    head_bytes (record { batches = head.batches + 1; base = head.base; parts = head.parts })

-- the bytes that it writes to the next batch
abbrev pub batch_written : ℕ → List (Item (Vec ℕ)) → List ℕ
batch_written server [] = []
batch_written server (item ∷ items) =
    batch_bytes (record { server = server; items = item_views (item ∷ items) })

-- the number of that batch, or 0 for none
abbrev pub number_written : List (Item (Vec ℕ)) → Head → ℕ
number_written [] head = 0
number_written (item ∷ items) head = head.batches + 1

-- these are the revisions that a transaction compares, and the bytes that it writes
pub record IsSpelled (sending : BatchSending (Vec ℕ)) (sent : SentBytes) : Type 0 where
  pub stood : sent.stood ≡ sending.stood
  pub logged : sent.logged ≡ sending.logged
  pub number : sent.number ≡ number_written sending.items.now sending.head
  pub head : sent.head.items ≡ head_written sending.items.now sending.base sending.head
  pub batch : sent.batch.items ≡ batch_written sending.server sending.items.now

-- the transaction may be sent by one of so many shards
abbrev pub MayBeSent : {M R : Type 0} → ByteService M R → ShardServer M (Vec ℕ) R → Transaction (Vec ℕ) (Part R)
    → Type 0
MayBeSent {R = R} service core txn =
    (charter : Charter (Vec ℕ) (Part R)) (log : StoreLog (Vec ℕ) R) → charter.count ≡ core.count
    → charter.parts ≡ base_of service → IsTrueOf service log core
    → MaySend charter log txn

-- they are those of the server's transaction, which may be sent
abbrev pub SpellsSending : {M R : Type 0} → ByteService M R → ByteServer M R → SentBytes → Type 0
SpellsSending service server sent =
    (sending : BatchSending (Vec ℕ)) × IsSpelled sending sent
    × IfSome server.core.ready (λ ready.
    sending_transaction sending ≡ sent_transaction server.core.me server.core.shard ready)
    × MayBeSent service server.core (sending_transaction sending)

-- the answers are those of the transaction that was made, and of its reads
abbrev pub TellsAnswers : {M R : Type 0} → ByteService M R → (Vec ℕ → ℕ) → ByteServer M R → ℕ → ByteServer M R
    → Type 0
TellsAnswers service size old revision new =
    DoneOn service size old (λ input. input ≡ Made revision)
    (λ output. output ≡ Answers (record { made = new.made; read = new.read })) new
