-- The knowledge of a server about its shard, and its conclusions.
use Rattle.std.specs.Prelude.{ℕ, Bool, true, false, not, if◌then◌else◌, Option, Some, None, IfSome, IsTrue, ◌≡◌, ◌≢◌}
use Rattle.std.specs.Prelude.{◌≤◌, ◌<◌, ◌+◌, List, [], ◌∷◌, ◌++◌, length, take, drop}
use Rattle.std.specs.List.{AllByRecursion}
use Rattle.sm_ownership.specs.declared.record.Record.{Record}
use Rattle.sm_ownership.specs.Rules.{forward_to}
use Rattle.sm_shard.specs.Bases.{Part, base_of}
use Rattle.sm_shard.specs.declared.base_work.BaseStage.{BaseStage}
use Rattle.sm_shard.specs.declared.base_work.BaseStage.TheVariants.{Writing, Written, Naming}
use Rattle.sm_shard.specs.declared.base_work.BaseWork.{BaseWork}
use Rattle.sm_shard.specs.declared.base_work.NamedBase.{NamedBase}
use Rattle.sm_store.specs.declared.head.Head.{Head}
use Rattle.sm_store.specs.declared.item.Item.{Item}
use Rattle.sm_store.specs.Clients.{Automaton, floor_of, last_of, reply_in}
use Rattle.sm_store.specs.Store.{Transaction, all_hold, head_key, made_at, part_at, part_key, record_key, stored_record}
use Rattle.sm_store.specs.Deeds.{AreAccepted, Basing, Checking, Executing, HasRequests, Naming as Names, WasFound, at}
use Rattle.sm_store.specs.Deeds.{shard_log, transaction_of}
use Rattle.sm_store.specs.System.{Ask, Carried, Claim, IsAmong, Overtaken, Reads, Replies, System, WasAsked}
use Rattle.sm_shard.specs.declared.replica.MadeReply.{MadeReply}
use Rattle.sm_shard.specs.declared.shard_server.BatchSending.{BatchSending}
use Rattle.sm_shard.specs.declared.shard_server.PartsSending.{PartsSending}
use Rattle.sm_shard.specs.declared.shard_server.ShardServer.{ShardServer}
use Rattle.sm_shard.specs.declared.shard_state.Decision.{Decision}
use Rattle.sm_shard.specs.declared.shard_state.Decision.TheVariants.{Replied, Passed, Forwards}
use Rattle.sm_shard.specs.declared.shard_state.Decision.TheVariants.{Forgotten}
use Rattle.sm_shard.specs.declared.shard_state.ShardState.{ShardState}
use Rattle.sm_shard.specs.declared.shard_limits.ShardLimits.{ShardLimits}
use Rattle.sm_shard.specs.Decisions.{batch_length, is_written, named_by}
use Rattle.sm_shard.specs.Replicas.{IsReplica, ToldRead}

-- a store of requests
abbrev pub StoreLog : Type 0 → Type 0 → Type 0
StoreLog Q R = List (Transaction Q (Part R))

-- such a store, and everything that was ever asked, sent, held and claimed
abbrev pub StoreSystem : Type 0 → Type 0 → Type 0
StoreSystem Q R = System Q (Part R) R

-- the replica is that of these requests, and those that were sent to the store or wait are accepted and come next
pub record IsShardState {M Q R : Type 0} (service : Automaton M Q R) (me : ℕ)
    (before : List (Item Q)) (ready : ShardState M Q R) : Type 0 where
  pub replica : IsReplica service before ready.replica
  pub accepted : AreAccepted ready.state me before (ready.sent.items ++ ready.waiting.items)

-- the parts of a base are being written
abbrev pub is_writing : BaseStage → Bool
is_writing Writing = true
is_writing _ = false

-- each part of a base was found at its place
abbrev pub ArePlaced : {Q R : Type 0} → StoreLog Q R → ℕ → ℕ → ℕ → Type 0
ArePlaced {R = R} log shard number count =
    (place : ℕ) → place < count → (part : Part R) × (revision : ℕ)
    × WasFound (part_at shard number place) (part_key shard number place) log (Some part) revision

-- the base is that of so many batches, newer than the head's, and if it is written, each part was found
pub record IsWorkTrue {M Q R : Type 0} (service : Automaton M Q R) (log : StoreLog Q R) (shard : ℕ) (head : Head)
    (work : BaseWork R) : Type 0 where
  pub newer : head.base < work.number
  pub items : List (Item Q)
  pub requests : HasRequests log shard work.number items
  pub parts : work.parts.items ≡ base_of service items
  pub placed : IsTrue (not (is_writing work.stage)) → ArePlaced log shard work.number (length work.parts.items)

-- the store had the record and the log on which the server works
pub record HasRead {M Q R : Type 0} (service : Automaton M Q R) (log : StoreLog Q R)
    (me shard : ℕ)
    (ready : ShardState M Q R) : Type 0 where
  pub stood : WasFound (stored_record shard) (record_key shard) log ready.state ready.stood
  pub before : List (Item Q)
  pub logged : WasFound (shard_log shard) (head_key shard) log
      (record { head = ready.head; items = before }) ready.logged
  pub is : IsShardState service me before ready
  pub base : IfSome ready.work (IsWorkTrue service log shard ready.head)

-- the server's knowledge is true in the store
abbrev pub IsTrueOf : {M Q R : Type 0} → Automaton M Q R → StoreLog Q R → ShardServer M Q R → Type 0
IsTrueOf service log server = IfSome server.ready
    (λ ready. HasRead service log server.me server.shard ready)

-- the request was asked
abbrev pub IsAsked : {Q : Type 0} → List (Ask Q) → ℕ → Item Q → Type 0
IsAsked {Q = Q} asked shard item =
    (ask : Ask Q) × WasAsked asked shard item.client item.number ask × (ask.request ≡ item.request)

-- it was asked before the log had this length
abbrev pub IsAskedBy : {Q : Type 0} → List (Ask Q) → ℕ → ℕ → Item Q → Type 0
IsAskedBy {Q = Q} asked shard since item =
    (ask : Ask Q) × WasAsked asked shard item.client item.number ask × (ask.request ≡ item.request)
    × (ask.since ≤ since)

-- the reads that wait were asked, and those of the transaction that was sent at this length of the log were asked
-- before
pub record AreAskedOf {M Q R : Type 0} (asked : List (Ask Q)) (since shard : ℕ)
    (ready : ShardState M Q R) : Type 0 where
  pub asking : AllByRecursion (IsAsked asked shard) ready.asking.items
  pub carried : AllByRecursion (IsAskedBy asked shard since) ready.carried.items

-- the server's reads were asked in time
abbrev pub AreAsked : {M Q R : Type 0} → List (Ask Q) → ℕ → ShardServer M Q R → Type 0
AreAsked asked since server = IfSome server.ready (λ ready. AreAskedOf asked since server.shard ready)

-- each request that was sent was asked, and so was each that waits
pub record AreRequestsAskedOf {M Q R : Type 0} (asked : List (Ask Q)) (shard : ℕ)
    (ready : ShardState M Q R) : Type 0 where
  pub sent : AllByRecursion (IsAsked asked shard) ready.sent.items
  pub waiting : AllByRecursion (IsAsked asked shard) ready.waiting.items

-- the requests that the server has sent, or keeps waiting, were asked
abbrev pub AreRequestsAsked : {M Q R : Type 0} → List (Ask Q) → ShardServer M Q R → Type 0
AreRequestsAsked asked server = IfSome server.ready (λ ready. AreRequestsAskedOf asked server.shard ready)

-- a decision is right about a request, if the server knows these requests
abbrev pub IsDecided : {M Q R : Type 0} → Automaton M Q R → Record → ℕ → List (Item Q) → ℕ → ℕ
    → Decision R → Type 0
IsDecided service state me before client number (Replied answer) =
    reply_in service service.start before client number ≡ Some answer
IsDecided service state me before client number Passed = number < last_of client before
IsDecided service state me before client number Forgotten = client < floor_of before
IsDecided service state me before client number (Forwards to hops) = forward_to state me ≡ Some to
IsDecided service state me before client number _ = Unit {0}

-- a base that is there must be named now
abbrev pub naming_next : {R : Type 0} → Option (BaseWork R) → Option (BaseWork R)
naming_next None = None
naming_next (Some work) =
    if is_written work.stage then Some (record { number = work.number; parts = work.parts; stage = Naming })
    else Some work

-- a base whose parts were written is there
abbrev pub written_now : {R : Type 0} → Option (BaseWork R) → Option (BaseWork R)
written_now None = None
written_now (Some work) =
    if is_writing work.stage then Some (record { number = work.number; parts = work.parts; stage = Written })
    else Some work

-- the head names this base, if any, since this revision
abbrev pub named_at : {M Q R : Type 0} → ℕ → Option NamedBase → ShardState M Q R → ShardState M Q R
named_at revision None old = old
named_at revision (Some base) old = record old {
  head = record { batches = old.head.batches; base = base.number; parts = base.parts };
  logged = revision;
  work = None;
}

-- the head names the base by which it was sent to, if any, since this revision
abbrev pub named_now : {M Q R : Type 0} → ℕ → ShardState M Q R → ShardState M Q R
named_now revision old = named_at revision (named_by old.work) old

-- the reads that waited are carried, and as many requests as go into one batch are sent
pub record IsFlushed {M Q R : Type 0} (limits : ShardLimits) (size : Q → ℕ) (old new : ShardState M Q R) : Type 0 where
  pub sent : new.sent.items ≡ take (batch_length limits size old) old.waiting.items
  pub waiting : new.waiting.items ≡ drop (batch_length limits size old) old.waiting.items
  pub carried : new.carried.items ≡ old.asking.items
  pub asking : new.asking.items ≡ []
  pub work : new.work ≡ naming_next old.work

-- a base of these requests was begun
pub record IsNewBase {M Q R : Type 0} (service : Automaton M Q R) (number : ℕ) (items : List (Item Q))
    (work : BaseWork R) : Type 0 where
  pub number_is : work.number ≡ number
  pub parts : work.parts.items ≡ base_of service items
  pub stage : work.stage ≡ Writing

-- all is as it was but for the base that is made
pub record IsButWork {M Q R : Type 0} (old new : ShardState M Q R) : Type 0 where
  pub state : new.state ≡ old.state
  pub stood : new.stood ≡ old.stood
  pub replica : new.replica ≡ old.replica
  pub head : new.head ≡ old.head
  pub logged : new.logged ≡ old.logged
  pub sent : new.sent ≡ old.sent
  pub waiting : new.waiting ≡ old.waiting
  pub carried : new.carried ≡ old.carried
  pub asking : new.asking ≡ old.asking
  pub decides : new.decides ≡ old.decides

-- nothing is sent, and nothing waits any less
pub record IsUnflushed {M Q R : Type 0} (old new : ShardState M Q R) : Type 0 where
  pub sent : new.sent.items ≡ old.sent.items
  pub waiting : new.waiting.items ≡ old.waiting.items
  pub carried : new.carried.items ≡ old.carried.items
  pub asking : new.asking.items ≡ old.asking.items
  pub work : new.work ≡ old.work

-- the state is as it was
pub record IsSameState {M Q R : Type 0} (old new : ShardState M Q R) : Type 0 where
  pub state : new.state ≡ old.state
  pub stood : new.stood ≡ old.stood
  pub replica : new.replica ≡ old.replica
  pub head : new.head ≡ old.head
  pub logged : new.logged ≡ old.logged
  pub sent : new.sent.items ≡ old.sent.items
  pub waiting : new.waiting.items ≡ old.waiting.items
  pub carried : new.carried.items ≡ old.carried.items
  pub asking : new.asking.items ≡ old.asking.items
  pub work : new.work ≡ old.work
  pub decides : new.decides ≡ old.decides

-- the server has read nothing yet, as before, or its state is as it was
abbrev pub IsAsReady : {M Q R : Type 0} → Option (ShardState M Q R) → Option (ShardState M Q R) → Type 0
IsAsReady None None = Unit {0}
IsAsReady (Some old) (Some new) = IsSameState old new
IsAsReady old new = ⊥

-- the claims of a decision to its request's client
abbrev pub claimed_by : {Q R : Type 0} → ℕ → Item Q → Decision R → List (Claim Q R)
claimed_by shard item (Replied answer) = Replies shard item.client item.number item.request answer ∷ []
claimed_by shard item Passed = Overtaken shard item.client item.number ∷ []
claimed_by shard item Forgotten = Overtaken shard item.client item.number ∷ []
claimed_by shard item _ = []

-- the claims of the replies to requests, in the same order, to their clients
abbrev pub claimed_all : {Q R : Type 0} → ℕ → List (Item Q) → List (MadeReply R) → List (Claim Q R)
claimed_all shard [] answers = []
claimed_all shard (item ∷ items) [] = []
claimed_all shard (item ∷ items) (made ∷ others) =
    Replies shard made.client made.number item.request made.reply ∷ claimed_all shard items others

-- the claim of the answer to a read, before these; without an answer it claims nothing
abbrev pub claimed_read : {Q R : Type 0} → ℕ → Q → ℕ → ℕ → Option (R × List ℕ) → List (Claim Q R) → List (Claim Q R)
claimed_read shard request client number None others = others
claimed_read shard request client number (Some (reply, text)) others =
    Reads shard client number request reply text ∷ others

-- the claims of the answers to reads, in the same order
abbrev pub claimed_reads : {Q R : Type 0} → ℕ → List (Item Q) → List (ToldRead R) → List (Claim Q R)
claimed_reads shard [] reads = []
claimed_reads shard (item ∷ items) [] = []
claimed_reads shard (item ∷ items) (read ∷ reads) =
    claimed_read shard item.request read.client read.number read.answer (claimed_reads shard items reads)

-- the transaction if there are no requests: the head names a base, or there are only compares
abbrev pub transaction_without : {Q R : Type 0} → ℕ → Option NamedBase → Head → ℕ → ℕ → Transaction Q (Part R)
transaction_without shard None head stood logged =
    transaction_of (Checking (at (record_key shard) stood ∷ at (head_key shard) logged ∷ []))
transaction_without shard (Some base) head stood logged =
    transaction_of (Names shard head base.number base.parts logged)

-- the transaction for these requests
abbrev pub transaction_for : {Q R : Type 0} → ℕ → ℕ → Option NamedBase → List (Item Q) → Head → ℕ → ℕ
    → Transaction Q (Part R)
transaction_for shard server base [] head stood logged = transaction_without shard base head stood logged
transaction_for shard server base (item ∷ items) head stood logged =
    transaction_of (Executing shard server (item ∷ items) head stood logged)

-- the transaction that a server sends
abbrev pub sending_transaction : {Q R : Type 0} → BatchSending Q → Transaction Q (Part R)
sending_transaction sending =
    transaction_for sending.shard sending.server sending.base sending.items.now sending.head sending.stood
    sending.logged

-- the transaction that a server sent
abbrev pub sent_transaction : {M Q R : Type 0} → ℕ → ℕ → ShardState M Q R → Transaction Q (Part R)
sent_transaction me shard ready =
    transaction_for shard me (named_by ready.work) ready.sent.items ready.head ready.stood ready.logged

-- the transactions that write the parts of a base from a place on
abbrev pub basing_from : {Q R : Type 0} → ℕ → ℕ → ℕ → List (Part R) → StoreLog Q R
basing_from shard number place [] = []
basing_from shard number place (part ∷ parts) =
    transaction_of (Basing shard number place part) ∷ basing_from shard number (place + 1) parts

-- the transactions that write the parts of the base that a server makes
abbrev pub basing_by : {Q R : Type 0} → ℕ → Option (BaseWork R) → StoreLog Q R
basing_by shard None = []
basing_by shard (Some work) = basing_from shard work.number 0 work.parts.items

-- the transactions that write these parts
abbrev pub parts_transactions : {Q R : Type 0} → PartsSending R → StoreLog Q R
parts_transactions sending = basing_from sending.shard sending.number 0 sending.parts.now

-- the store made the transaction, at this revision
pub record WasMade {Q R : Type 0} (log : StoreLog Q R) (txn : Transaction Q (Part R)) (revision : ℕ) : Type 0 where
  pub later : StoreLog Q R
  pub past : StoreLog Q R
  pub is : log ≡ later ++ made_at revision txn ∷ past
  pub held : IsTrue (all_hold past txn.compares)

-- the requests that a server sent were made, if it writes anything
abbrev pub WereMade : {M Q R : Type 0} → StoreLog Q R → ℕ → ℕ → ℕ → ShardState M Q R → Type 0
WereMade log me shard revision ready =
    ((sent_transaction me shard ready).writes ≢ []) → WasMade log (sent_transaction me shard ready) revision

-- each part of the base that a server makes was written
abbrev pub AreWritten : {M Q R : Type 0} → StoreLog Q R → ℕ → ShardState M Q R → Type 0
AreWritten log shard ready =
    AllByRecursion (λ txn. (revision : ℕ) × WasMade log txn revision) (basing_by shard ready.work)

-- the transaction's compares held, and it was sent at this length of the log, or later
pub record DidHold {Q R : Type 0} (held : List (Carried Q (Part R))) (since : ℕ)
    (txn : Transaction Q (Part R)) : Type 0 where
  pub one : Carried Q (Part R)
  pub among : IsAmong one held
  pub txn_is : one.txn ≡ txn
  pub sent_after : since ≤ one.since
