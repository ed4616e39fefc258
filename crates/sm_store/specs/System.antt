-- All processes and the store, over every order of events. Messages come late, twice, or never, and in any order: a
-- transaction that was once sent to the store may reach it at any later moment, any number of times. Processes stop,
-- forget and start at any moment: nothing here rests on their memory, but only on the messages that they send and the
-- claims that they make.
use Rattle.std.specs.Prelude.{ℕ, Option, Some, None, IsTrue, ◌≡◌, ◌<◌, ◌≤◌, ◌⊎◌, List, [], ◌∷◌, ◌++◌, length, slice_get}
use Rattle.std.specs.Prelude.{Bool, true, not, ◌==◌, if◌then◌else◌}
use Rattle.std.specs.List.{AllByRecursion, list_any}
use Rattle.sm_store.specs.declared.item.Item.{Item}
use Rattle.sm_store.specs.Clients.{Automaton, IsOver, reply_in, state_after, times}
use Rattle.sm_store.specs.declared.store_key.StoreKey.TheVariants.{Passing}
use Rattle.sm_store.specs.Store.{Transaction, Write, Deletes, all_hold, head_key, last_revision, made, made_at}
use Rattle.sm_store.specs.Store.{revision_of}
use Rattle.sm_store.specs.Deeds.{AreRight, Charter, MaySend, WasFound, at}
use Rattle.sm_store.specs.Whole.{IsLogWhole}

-- a request that came: its client, its number among that client's requests, and the length of the log then
pub record Ask (Q : Type 0) : Type 0 where
  pub shard : ℕ
  pub client : ℕ
  pub number : ℕ
  pub request : Q
  pub since : ℕ

-- a claim of a process to a client
pub data Claim (Q R : Type 0) : Type 0 where
  -- the client's request of this number is made, with this reply, and this is that request
  Replies : (shard client number : ℕ) (request : Q) (reply : R) → Claim Q R
  -- a later request of the client is made, or the client is forgotten, so this request won't be made
  Overtaken : (shard client number : ℕ) → Claim Q R
  -- the client's request of this number, which is this one and only reads, has this reply and this text
  Reads : (shard client number : ℕ) (request : Q) (reply : R) (text : List ℕ) → Claim Q R

-- a transaction that was sent, and the length of the log then
pub record SentTransaction (Q P : Type 0) : Type 0 where
  pub txn : Transaction Q P
  pub since : ℕ

-- a transaction whose compares held, and the store at which they did
pub record Carried (Q P : Type 0) : Type 0 where
  pub txn : Transaction Q P
  pub since : ℕ
  pub moment : List (Transaction Q P)

-- the store, and everything that was ever asked, sent, held and claimed
pub record System (Q P R : Type 0) : Type 0 where
  pub log : List (Transaction Q P)
  pub asked : List (Ask Q)
  pub sent : List (SentTransaction Q P)
  pub held : List (Carried Q P)
  pub claims : List (Claim Q R)

-- the events, which happen one after another
pub data Event (Q P R : Type 0) : Type 0 where
  -- a request comes to a process
  Comes : (shard client number : ℕ) (request : Q) → Event Q P R
  -- a process sends a transaction
  Sends : (txn : Transaction Q P) → Event Q P R
  -- a transaction that was sent, or a copy of it, reaches the store, which makes it at this revision if its compares
  -- hold
  Reaches : (which revision : ℕ) → Event Q P R
  -- a process claims something to a client
  Claims : (claim : Claim Q R) → Event Q P R

-- the write changes the store: a deletion does only if one of its keys is there
abbrev pub leaves_trace : {Q P : Type 0} → List (Transaction Q P) → Write Q P → Bool
leaves_trace log (Deletes keys) = list_any (λ key. not (revision_of (Passing key) log == 0)) keys
leaves_trace log _ = true

-- the log with a transaction that is made; a transaction that changes nothing leaves no trace
abbrev pub extended : {Q P : Type 0} → Transaction Q P → List (Transaction Q P) → List (Transaction Q P)
extended txn log = if list_any (leaves_trace log) txn.writes then txn ∷ log else log

-- the store makes a transaction that reaches it, at this revision, if its compares hold
abbrev pub after_reaching : {Q P R : Type 0} → System Q P R → ℕ → Option (SentTransaction Q P) → System Q P R
after_reaching system revision None = system
after_reaching system revision (Some sent) =
    if all_hold system.log sent.txn.compares
    then record system {
      log = extended (made_at revision sent.txn) system.log;
      held = record { txn = sent.txn; since = sent.since; moment = system.log } ∷ system.held;
    }
    else system

-- it is among these
abbrev pub IsAmong : {A : Type 0} → A → List A → Type 0
IsAmong one [] = ⊥
IsAmong one (other ∷ others) = (other ≡ one) ⊎ IsAmong one others

-- it is among the asked requests of this client to this shard, and has this number
pub record WasAsked {Q : Type 0} (asked : List (Ask Q)) (shard client number : ℕ) (ask : Ask Q) : Type 0 where
  pub among : IsAmong ask asked
  pub shard_is : ask.shard ≡ shard
  pub client_is : ask.client ≡ client
  pub number_is : ask.number ≡ number

-- the request was asked and only reads, and the reply and the text are right for a moment after the request came
pub record IsReadSince {Q P R S : Type 0} (service : Automaton S Q R) (asked : List (Ask Q))
    (log : List (Transaction Q P)) (shard client number : ℕ) (request : Q) (answer : R)
    (text : List ℕ) : Type 0 where
  pub ask : Ask Q
  pub was_asked : WasAsked asked shard client number ask
  pub request_is : ask.request ≡ request
  pub only_reads : IsTrue (service.reads request)
  pub later : List (Transaction Q P)
  pub past : List (Transaction Q P)
  pub is : log ≡ later ++ past
  pub since : ask.since ≤ length past
  pub answer_is : answer ≡ service.reply (state_after service service.start (made shard past)) request
  pub text_is : text ≡ service.text (state_after service service.start (made shard past)) request

-- the claim is true: the reply is the reply of one thread's run over the requests that are made, in order; a request
-- that won't be made is over
abbrev pub IsSo : {Q P R S : Type 0} → Automaton S Q R → List (Ask Q) → List (Transaction Q P)
    → Claim Q R → Type 0
IsSo service asked log (Replies shard client number request answer) =
    reply_in service service.start (made shard log) client number ≡ Some answer
IsSo service asked log (Overtaken shard client number) = IsOver client number (made shard log)
IsSo service asked log (Reads shard client number request answer text) =
    IsReadSince service asked log shard client number request answer text

-- the request was asked and only reads. After it came, a process sent a transaction that compares the revision of the
-- requests that the process has read, and that held
pub record MayRead {Q P R S : Type 0} (service : Automaton S Q R) (system : System Q P R)
    (shard client number : ℕ) (request : Q) (answer : R) (text : List ℕ) : Type 0 where
  pub ask : Ask Q
  pub was_asked : WasAsked system.asked shard client number ask
  pub request_is : ask.request ≡ request
  pub only_reads : IsTrue (service.reads request)
  pub held : Carried Q P
  pub was_held : IsAmong held system.held
  pub sent_after : ask.since ≤ held.since
  pub items : List (Item Q)
  pub revision : ℕ
  pub items_were : WasFound (made shard) (head_key shard) system.log items revision
  pub compared : IsAmong (at (head_key shard) revision) held.txn.compares
  pub answer_is : answer ≡ service.reply (state_after service service.start items) request
  pub text_is : text ≡ service.text (state_after service service.start items) request

-- the claims that a process may make: a claim that is true in the store that it has read, and a read by `MayRead`
abbrev pub MayClaim : {Q P R S : Type 0} → Automaton S Q R → System Q P R → Claim Q R → Type 0
MayClaim service system (Reads shard client number request answer text) =
    MayRead service system shard client number request answer text
MayClaim service system claim = IsSo service system.asked system.log claim

-- the events that may happen: a process sends only transactions that it may send, and claims only facts that it knows;
-- the store's revision rises, by one or by more
abbrev pub May : {Q P R S : Type 0} → Automaton S Q R → Charter Q P → System Q P R → Event Q P R → Type 0
May service charter system (Sends txn) = MaySend charter system.log txn
May service charter system (Claims claim) = MayClaim service system claim
May service charter system (Reaches which revision) = last_revision system.log < revision
May service charter system (Comes shard client number request) = Unit {0}

-- the system after an event
abbrev pub happens : {Q P R : Type 0} → System Q P R → Event Q P R → System Q P R
happens system (Comes shard client number request) =
    record system {
      asked = record { shard = shard; client = client; number = number; request = request; since = length system.log }
          ∷ system.asked;
    }
happens system (Sends txn) =
    record system { sent = record { txn = txn; since = length system.log } ∷ system.sent }
happens system (Reaches which revision) = after_reaching system revision (slice_get system.sent which)
happens system (Claims claim) = record system { claims = claim ∷ system.claims }

-- the system after these events, the latest first
abbrev pub system_after : {Q P R : Type 0} → List (Event Q P R) → System Q P R
system_after [] = record { log = []; asked = []; sent = []; held = []; claims = [] }
system_after (event ∷ earlier) = happens (system_after earlier) event

-- each event was one that might happen
abbrev pub MightHappen : {Q P R S : Type 0} → Automaton S Q R → Charter Q P → List (Event Q P R) → Type 0
MightHappen service charter [] = Unit {0}
MightHappen service charter (event ∷ earlier) = May service charter (system_after earlier) event
    × MightHappen service charter earlier

-- the law, at each moment of each run
pub record IsLawful {Q P R S : Type 0} (service : Automaton S Q R) (charter : Charter Q P)
    (system : System Q P R) : Type 0 where
  -- the rule allows each change, and the leader made it; the accepted server made each batch, next in the log
  pub right : AreRight charter system.log
  -- the values at a shard's keys lead to all requests that are made
  pub whole : (shard : ℕ) → IsLogWhole charter shard system.log
  -- no request is made twice
  pub once : (shard client number : ℕ) → times client number (made shard system.log) ≤ 1
  -- each claim is true, now as when it was made
  pub claims : AllByRecursion (IsSo service system.asked system.log) system.claims

-- a request that was overtaken is not made from then on
abbrev pub StaysOvertaken : {Q P R : Type 0} → System Q P R → System Q P R → Claim Q R → Type 0
StaysOvertaken before now (Overtaken shard client number) =
    times client number (made shard now.log) ≡ times client number (made shard before.log)
StaysOvertaken before now _ = Unit {0}
