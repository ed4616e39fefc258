-- The guarantees of a server's step, for any store: if the server's knowledge is true there, and so is its input, then
-- its knowledge after it is true, its transactions may be sent, and its claims are true.
use Rattle.std.specs.Prelude.{ℕ, Option, Some, None, IfSome, Result, Ok, Err, ◌≡◌, ◌≤◌, List, [], ◌∷◌, ◌++◌, length}
use Rattle.std.specs.Prelude.{IsSomeAnd, false, true, if◌then◌else◌, map}
use Rattle.std.specs.List.{AllByRecursion}
use Rattle.sm_ownership.specs.declared.record.Record.{Record}
use Rattle.sm_shard.specs.Bases.{Part, base_of}
use Rattle.sm_store.specs.declared.head.Head.{Head}
use Rattle.sm_store.specs.declared.item.Item.{Item}
use Rattle.sm_store.specs.Clients.{Automaton}
use Rattle.sm_store.specs.Store.{head_key, head_of, record_key, stored_record}
use Rattle.sm_store.specs.Deeds.{AreRight, Charter, Clearing, MaySend, WasFound, transaction_of}
use Rattle.sm_store.specs.Linear.{AsksFor}
use Rattle.sm_store.specs.System.{Ask, Claim, MayClaim}
use Rattle.sm_store.specs.Whole.{AreBatches, AreParts}
use Rattle.sm_shard.specs.declared.replica.ReplayFault.{ReplayFault}
use Rattle.sm_shard.specs.declared.replica.ReplayFault.TheVariants.{Memory}
use Rattle.sm_shard.specs.declared.shard_server.ShardServer.{ShardServer}
use Rattle.sm_shard.specs.declared.shard_server.StoreAnswers.{StoreAnswers}
use Rattle.sm_shard.specs.declared.shard_server.Undecided.{Undecided}
use Rattle.sm_shard.specs.declared.shard_state.Decision.{Decision}
use Rattle.sm_shard.specs.declared.shard_state.ShardState.{ShardState}
use Rattle.sm_shard.specs.declared.steps.ShardInput.{ShardInput}
use Rattle.sm_shard.specs.declared.steps.ShardInput.TheVariants.{Read, Record as RecordRead, Request, Flush, Made}
use Rattle.sm_shard.specs.declared.steps.ShardInput.TheVariants.{Append, Lost}
use Rattle.sm_shard.specs.declared.steps.ShardInput.TheVariants.{Question, Base, PartsMade, Clear}
use Rattle.sm_shard.specs.declared.steps.ShardOutput.{ShardOutput}
use Rattle.sm_shard.specs.declared.steps.ShardOutput.TheVariants.{Nothing, Sends, Decided, Answers, Decides, Bases}
use Rattle.sm_shard.specs.declared.steps.ShardOutput.TheVariants.{Clears}
use Rattle.sm_shard.specs.Decisions.{server_begins, server_behind, server_decides, server_decision}
use Rattle.sm_shard.specs.Decisions.{server_read_decision, server_sends, server_settled}
use Rattle.sm_shard.specs.Replicas.{read_of, replies_of, told_read}
use Rattle.sm_shard.specs.ShardServers.{AreAsked, AreRequestsAsked, AreWritten, DidHold, IsAsReady, IsAsked, IsTrueOf}
use Rattle.sm_shard.specs.ShardServers.{StoreLog, StoreSystem}
use Rattle.sm_shard.specs.ShardServers.{WereMade, basing_by, claimed_all, claimed_by, claimed_reads, sent_transaction}

-- the claims of a decision about an input to its client
abbrev pub claimed_on : {Q R : Type 0} → ℕ → ShardInput Q R → Decision R → List (Claim Q R)
claimed_on shard (Request item) decision = claimed_by shard item decision
claimed_on shard input decision = []

-- the claims of answers to the sent requests, and to the reads in the transaction
abbrev pub claimed_answers : {M Q R : Type 0} → ℕ → Option (ShardState M Q R) → StoreAnswers R → List (Claim Q R)
claimed_answers shard None answers = []
claimed_answers shard (Some ready) answers =
    claimed_all shard ready.sent.items answers.made.items
    ++ claimed_reads shard ready.carried.items (map told_read answers.read.items)

-- the claims of an output
abbrev pub claimed_to : {M Q R : Type 0} → ShardServer M Q R → ShardInput Q R → ShardOutput Q R → List (Claim Q R)
claimed_to old input (Decided decision) = claimed_on old.shard input decision
claimed_to old input (Answers answers) = claimed_answers old.shard old.ready answers
claimed_to old input _ = []

-- the claims of a server's step
abbrev pub step_claims : {M Q R : Type 0} → ShardServer M Q R → ShardInput Q R
    → Result (ShardOutput Q R) ReplayFault → List (Claim Q R)
step_claims old input (Ok output) = claimed_to old input output
step_claims old input (Err fault) = []

-- the transactions that a server is about to send
abbrev pub transactions_of : {M Q R : Type 0} → ℕ → ℕ → Option (ShardState M Q R) → StoreLog Q R
transactions_of me shard None = []
transactions_of me shard (Some ready) = sent_transaction me shard ready ∷ []

-- the transactions that write the base that a server makes
abbrev pub bases_of : {M Q R : Type 0} → ℕ → Option (ShardState M Q R) → StoreLog Q R
bases_of shard None = []
bases_of shard (Some ready) = basing_by shard ready.work

-- the transactions of a step
abbrev pub step_sends : {M Q R : Type 0} → Result (ShardOutput Q R) ReplayFault → ShardServer M Q R → StoreLog Q R
step_sends (Ok Sends) server = transactions_of server.me server.shard server.ready
step_sends (Ok Bases) server = bases_of server.shard server.ready
step_sends (Ok (Clears key)) server = transaction_of (Clearing (key ∷ [])) ∷ []
step_sends _ server = []

-- the length of the log when the server last sent, after a step at this length
abbrev pub since_after : {Q R : Type 0} → Result (ShardOutput Q R) ReplayFault → ℕ → ℕ → ℕ
since_after (Ok Sends) since now = now
since_after _ since now = since

-- the log was read: the head, the parts of the base that it names, and the batches after it, each at some moment
pub record IsLogRead {Q R : Type 0} (log : StoreLog Q R) (shard : ℕ) (head : Head) (logged : ℕ)
    (parts : List (Part R)) (batches : List (List (Item Q))) : Type 0 where
  pub read : WasFound (head_of shard) (head_key shard) log head logged
  pub base : AreParts shard log head.base 0 parts
  pub rest : AreBatches shard log head.base batches

-- the log was read from so many batches on: the head, and the batches after those, each at some moment
pub record IsLogReadOn {Q R : Type 0} (log : StoreLog Q R) (shard number : ℕ) (head : Head) (logged : ℕ)
    (batches : List (List (Item Q))) : Type 0 where
  pub read : WasFound (head_of shard) (head_key shard) log head logged
  pub rest : AreBatches shard log number batches

-- a server's input is true in the store, if the server last sent at this length of the log
abbrev pub IsInput : {M Q R : Type 0} → Automaton M Q R → StoreSystem Q R → ℕ → ShardServer M Q R
    → ShardInput Q R
    → Type 0
IsInput service system since server (Read state stood head logged parts batches) =
    WasFound (stored_record server.shard) (record_key server.shard) system.log state stood
    × IsLogRead system.log server.shard head logged parts.now (map (λ batch. batch.items) batches.now)
IsInput service system since server (Append state stood head logged batches) =
    WasFound (stored_record server.shard) (record_key server.shard) system.log state stood
    × IfSome server.ready (λ ready. IsLogReadOn system.log server.shard ready.head.batches head logged
    (map (λ batch. batch.items) batches.now))
IsInput service system since server (RecordRead state stood) =
    WasFound (stored_record server.shard) (record_key server.shard) system.log state stood
IsInput service system since server (Request item) = Unit {0}
IsInput service system since server (Question item) = IsAsked system.asked server.shard item
IsInput service system since server Flush = Unit {0}
IsInput service system since server (Made revision) =
    IfSome server.ready (λ ready. DidHold system.held since (sent_transaction server.me server.shard ready)
    × WereMade system.log server.me server.shard revision ready)
IsInput service system since server Lost = Unit {0}
IsInput service system since server Base = Unit {0}
IsInput service system since server PartsMade =
    IfSome server.ready (λ ready. AreWritten system.log server.shard ready)
IsInput service system since server (Clear key) = Unit {0}

-- each request was asked before now
abbrev pub ArePast : {Q R : Type 0} → StoreSystem Q R → Type 0
ArePast system = AllByRecursion (λ ask. ask.since ≤ length system.log) system.asked

-- after the step the server's knowledge is true, its transactions may be sent, and its claims may be made
pub record IsSafe {M Q R : Type 0} (service : Automaton M Q R) (charter : Charter Q (Part R))
    (system : StoreSystem Q R) (since : ℕ) (old : ShardServer M Q R) (input : ShardInput Q R)
    (result : Result (ShardOutput Q R) ReplayFault) (new : ShardServer M Q R) : Type 0 where
  pub known : IsTrueOf service system.log new
  pub asked : AreAsked system.asked (since_after result since (length system.log)) new
  pub may : AllByRecursion (MaySend charter system.log) (step_sends result new)
  pub claims : AllByRecursion (MayClaim service system) (step_claims old input result)

-- for every store with so many shards that was right until now, whenever the server last sent
abbrev pub IsStepOf : {M Q R : Type 0} → Automaton M Q R → ShardServer M Q R → ShardInput Q R
    → Result (ShardOutput Q R) ReplayFault → ShardServer M Q R → Type 0
IsStepOf {Q = Q} {R = R} service old input result new =
    (charter : Charter Q (Part R)) (system : StoreSystem Q R) (since : ℕ) → charter.count ≡ old.count
    → charter.parts ≡ base_of service → AreRight charter system.log → ArePast system
    → IsTrueOf service system.log old → AreAsked system.asked since old → IsInput service system since old input
    → IsSafe service charter system since old input result new

-- if the input is a request to be made, it was asked
abbrev pub IsRequestAsked : {Q R : Type 0} → List (Ask Q) → ℕ → ShardInput Q R → Type 0
IsRequestAsked asked shard (Request item) = IsAsked asked shard item
IsRequestAsked asked shard _ = Unit {0}

-- after the step the requests of the server were asked, and so were those of each transaction that it sends
pub record AsksForStep {M Q R : Type 0} (asked : List (Ask Q)) (result : Result (ShardOutput Q R) ReplayFault)
    (new : ShardServer M Q R) : Type 0 where
  pub requests : AreRequestsAsked asked new
  pub sends : AllByRecursion (AsksFor asked) (step_sends result new)

-- whatever was asked, a server that has only such requests, and is given only such, keeps to them
abbrev pub KeepsAsked : {M Q R : Type 0} → ShardServer M Q R → ShardInput Q R
    → Result (ShardOutput Q R) ReplayFault → ShardServer M Q R → Type 0
KeepsAsked {Q = Q} old input result new =
    (asked : List (Ask Q)) → AreRequestsAsked asked old → IsRequestAsked asked old.shard input
    → AsksForStep asked result new

-- the requests must be decided again: those that were sent or wait, and those that only read
abbrev pub AreUndecided : {M Q R : Type 0} → ShardState M Q R → Undecided Q → Type 0
AreUndecided ready again =
    (again.sent.items ++ again.waiting.items ≡ ready.sent.items ++ ready.waiting.items)
    × (again.carried.items ++ again.asking.items ≡ ready.carried.items ++ ready.asking.items)

-- the answers are those to the sent requests, and to the reads in the transaction: none before the server has read
abbrev pub AreAnswers : {M Q R : Type 0} → Automaton M Q R → Option (ShardState M Q R) → StoreAnswers R → Type 0
AreAnswers service None answers = (answers.made.items ≡ []) × (answers.read.items ≡ [])
AreAnswers service (Some ready) answers =
    (answers.made.items ≡ replies_of service ready.replica.machine ready.sent.items)
    × (map told_read answers.read.items ≡ map (read_of service ready.replica.machine) ready.carried.items)

-- exactly this comes of the input, by how many bytes each request takes in a batch
abbrev pub IsOutputOf : {M Q R : Type 0} → Automaton M Q R → (Q → ℕ) → ShardServer M Q R
    → ShardInput Q R → ShardOutput Q R → Type 0
IsOutputOf service size server (Read state stood head logged parts batches) output = output ≡ Nothing
IsOutputOf {Q = Q} service size server (Append state stood head logged batches) output =
    (again : Undecided Q) × (output ≡ Decides again) × IfSome server.ready (λ ready. AreUndecided ready again)
IsOutputOf {Q = Q} service size server (RecordRead state stood) output =
    (again : Undecided Q) × (output ≡ Decides again) × IfSome server.ready (λ ready. AreUndecided ready again)
IsOutputOf service size server (Request item) output =
    output ≡ Decided (server_decision server.limits size server.ready server.me item)
IsOutputOf service size server (Question item) output =
    output ≡ Decided (server_read_decision server.limits server.ready server.me item)
IsOutputOf service size server Flush output =
    output ≡ (if server_sends server.limits size server.ready then Sends else Nothing)
IsOutputOf {R = R} service size server (Made revision) output =
    (answers : StoreAnswers R) × (output ≡ Answers answers) × AreAnswers service server.ready answers
IsOutputOf {Q = Q} service size server Lost output =
    (again : Undecided Q) × (output ≡ Decides again) × IfSome server.ready (λ ready. AreUndecided ready again)
IsOutputOf service size server Base output = output ≡ (if server_begins server.ready then Bases else Nothing)
IsOutputOf service size server PartsMade output = output ≡ Nothing
IsOutputOf service size server (Clear key) output =
    output ≡ (if server_behind server.shard server.ready key then Clears key else Nothing)

-- the server uses this record and this head, and decides
pub record GoesBy {M Q R : Type 0} (state : Record) (stood : ℕ) (head : Head) (logged : ℕ)
    (ready : ShardState M Q R) : Type 0 where
  pub state_is : ready.state ≡ state
  pub stood_is : ready.stood ≡ stood
  pub head_is : ready.head ≡ head
  pub logged_is : ready.logged ≡ logged
  pub decides : ready.decides ≡ true

-- after these inputs the server uses its readings, or decides nothing until it has caught up
abbrev pub IsCaughtUp : {M Q R : Type 0} → ShardServer M Q R → ShardInput Q R → ShardServer M Q R → Type 0
IsCaughtUp old (Read state stood head logged parts batches) new = IsSomeAnd new.ready (GoesBy state stood head logged)
IsCaughtUp old (Append state stood head logged batches) new = IsSomeAnd new.ready (GoesBy state stood head logged)
IsCaughtUp old (RecordRead state stood) new = server_decides new.ready ≡ server_settled old.ready
IsCaughtUp old Lost new = server_decides new.ready ≡ false
IsCaughtUp old input new = Unit {0}

-- why such a step is refused, and what the server knows then: it is as it was if memory was refused for what waits, and
-- it has read nothing if it can't follow the log; the other steps are never refused
abbrev pub IsRefusedOn : {M Q R : Type 0} → ShardServer M Q R → ShardInput Q R → ReplayFault → ShardServer M Q R
    → Type 0
IsRefusedOn old (Read state stood head logged parts batches) fault new = new.ready ≡ None
IsRefusedOn old (Append state stood head logged batches) fault new = new.ready ≡ None
IsRefusedOn old (Made revision) fault new = new.ready ≡ None
IsRefusedOn old (Request item) fault new = (fault ≡ Memory) × IsAsReady old.ready new.ready
IsRefusedOn old (Question item) fault new = (fault ≡ Memory) × IsAsReady old.ready new.ready
IsRefusedOn old Flush fault new = (fault ≡ Memory) × IsAsReady old.ready new.ready
IsRefusedOn old Base fault new = (fault ≡ Memory) × IsAsReady old.ready new.ready
IsRefusedOn old (RecordRead state stood) fault new = ⊥
IsRefusedOn old Lost fault new = ⊥
IsRefusedOn old PartsMade fault new = ⊥
IsRefusedOn old (Clear key) fault new = ⊥
