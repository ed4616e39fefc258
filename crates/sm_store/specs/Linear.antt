-- Replies are linearizable: all requests to the shards have one order in time, in which one thread for each shard gives
-- the same replies. A moment of a run is the list of the events until then, the latest first.
use Rattle.std.specs.Prelude.{ℕ, ◌≡◌, ◌≤◌, ◌<◌, ◌==◌, IsTrue, List, [], ◌∷◌, ◌++◌, length, if◌then◌else◌}
use Rattle.std.specs.List.{AllByRecursion}
use Rattle.sm_store.specs.declared.item.Item.{Item}
use Rattle.sm_store.specs.Clients.{Automaton, is_from}
use Rattle.sm_store.specs.Store.{Transaction, made, made_by}
use Rattle.sm_store.specs.System.{Ask, Claim, Replies, Overtaken, Reads, Event, Sends, Claims}
use Rattle.sm_store.specs.System.{IsAmong, WasAsked, system_after}

-- a client asked this request of the shard under this number
abbrev pub DidAsk : {Q : Type 0} → List (Ask Q) → ℕ → ℕ → ℕ → Q → Type 0
DidAsk asked shard client number request =
    (ask : Ask _) × WasAsked asked shard client number ask × (ask.request ≡ request)

-- each request that the transaction makes was asked
abbrev pub AsksFor : {Q P : Type 0} → List (Ask Q) → Transaction Q P → Type 0
AsksFor asked txn =
    (shard : ℕ) → AllByRecursion (λ item. DidAsk asked shard item.client item.number item.request)
    (made_by shard txn.writes)

-- processes send only transactions whose requests were asked before
abbrev pub AreAskedFor : {Q P R : Type 0} → List (Event Q P R) → Type 0
AreAskedFor [] = Unit {0}
AreAskedFor (Sends txn ∷ earlier) = AsksFor (system_after earlier).asked txn × AreAskedFor earlier
AreAskedFor (_ ∷ earlier) = AreAskedFor earlier

-- one place of the order
pub data Operation (Q R : Type 0) : Type 0 where
  -- the store makes a request of the shard, which has this reply
  Update : (shard : ℕ) (item : Item Q) (reply : R) → Operation Q R
  -- a request of the shard only reads, and has this reply and this text, which the client got when this many events had
  -- happened
  Query : (shard client number : ℕ) (request : Q) (reply : R) (text : List ℕ) (told : ℕ) → Operation Q R

-- the shard of an operation
abbrev pub operation_shard : {Q R : Type 0} → Operation Q R → ℕ
operation_shard (Update shard item reply) = shard
operation_shard (Query shard client number request reply text told) = shard

-- the operations of one shard, in the same order
abbrev pub of_shard : {Q R : Type 0} → ℕ → List (Operation Q R) → List (Operation Q R)
of_shard shard [] = []
of_shard shard (one ∷ rest) = if operation_shard one == shard then one ∷ of_shard shard rest else of_shard shard rest

-- the request of an operation
abbrev pub operation_request : {Q R : Type 0} → Operation Q R → Q
operation_request (Update shard item reply) = item.request
operation_request (Query shard client number request reply text told) = request

-- the reply of an operation
abbrev pub operation_reply : {Q R : Type 0} → Operation Q R → R
operation_reply (Update shard item reply) = reply
operation_reply (Query shard client number request reply text told) = reply

-- if the operation is a query, its request only reads, and its text is that of this state
abbrev pub IsOfItsKind : {S Q R : Type 0} → Automaton S Q R → S → Operation Q R → Type 0
IsOfItsKind service state (Update shard item reply) = Unit {0}
IsOfItsKind service state (Query shard client number request reply text told) =
    IsTrue (service.reads request) × (text ≡ service.text state request)

-- one thread, which starts from this state and runs each request, gives these replies and texts
abbrev pub IsThread : {S Q R : Type 0} → Automaton S Q R → S → List (Operation Q R) → Type 0
IsThread service state [] = Unit {0}
IsThread service state (one ∷ rest) =
    (IsOfItsKind service state one × (operation_reply one ≡ service.reply state (operation_request one)))
    × IsThread service (service.after state (operation_request one)) rest

-- the requests of the updates, in the same order
abbrev pub updates_of : {Q R : Type 0} → List (Operation Q R) → List (Item Q)
updates_of [] = []
updates_of (Update shard item reply ∷ rest) = item ∷ updates_of rest
updates_of (Query shard client number request reply text told ∷ rest) = updates_of rest

-- the client asked nothing but this request of the shard under this number
abbrev pub IsOnlyAsk : {Q : Type 0} → List (Ask Q) → ℕ → ℕ → ℕ → Q → Type 0
IsOnlyAsk asked shard client number request =
    (ask : Ask _) → WasAsked asked shard client number ask → ask.request ≡ request

-- a reply that a client got when this many events had happened has its place in the order, at its own request: a read
-- always, an update if its client asked no other request under its number
abbrev pub HasPlace : {Q R : Type 0} → List (Ask Q) → List (Operation Q R) → ℕ → Claim Q R → Type 0
HasPlace asked order told (Replies shard client number request reply) =
    (item : Item _) × IsTrue (is_from client number item)
    × (IsOnlyAsk asked shard client number request → item.request ≡ request)
    × IsAmong (Update shard item reply) order
HasPlace asked order told (Reads shard client number request reply text) =
    IsAmong (Query shard client number request reply text told) order
HasPlace asked order told (Overtaken shard client number) = Unit {0}

-- each reply that a client got has its place in the order
abbrev pub HavePlaces : {Q P R : Type 0} → List (Ask Q) → List (Operation Q R) → List (Event Q P R) → Type 0
HavePlaces asked order [] = Unit {0}
HavePlaces asked order (Claims claim ∷ earlier) =
    HasPlace asked order (length earlier) claim × HavePlaces asked order earlier
HavePlaces asked order (_ ∷ earlier) = HavePlaces asked order earlier

-- the operation's request was asked by this moment
abbrev pub HasCome : {Q P R : Type 0} → List (Event Q P R) → Operation Q R → Type 0
HasCome moment (Update shard item reply) =
    DidAsk (system_after moment).asked shard item.client item.number item.request
HasCome moment (Query shard client number request reply text told) =
    DidAsk (system_after moment).asked shard client number request

-- no client was told of the operation by this moment
abbrev pub IsUntold : {Q P R : Type 0} → List (Event Q P R) → Operation Q R → Type 0
IsUntold moment (Update shard item reply) =
    (request : _) (any : _)
    → IsAmong (Replies shard item.client item.number request any) (system_after moment).claims → ⊥
IsUntold moment (Query shard client number request reply text told) = length moment ≤ told

-- at this moment the order can be cut: all requests of its first part were asked by then, and no client was told of its
-- second part by then
pub record Cut {Q P R : Type 0} (order : List (Operation Q R)) (moment : List (Event Q P R)) : Type 0 where
  pub front : List (Operation Q R)
  pub back : List (Operation Q R)
  pub is : order ≡ front ++ back
  pub came : AllByRecursion (HasCome moment) front
  pub untold : AllByRecursion (IsUntold moment) back

-- the run's requests have one order, in time
pub record IsLinear {Q P R S : Type 0} (service : Automaton S Q R) (events : List (Event Q P R)) : Type 0 where
  pub order : List (Operation Q R)
  -- one thread for each shard gives these replies in this order
  pub answered : (shard : ℕ) → IsThread service service.start (of_shard shard order)
  -- the updates are the requests that the store made, in the order in which it made them
  pub updates : (shard : ℕ) → updates_of (of_shard shard order) ≡ made shard (system_after events).log
  -- each reply that a client was told is in the order
  pub places : HavePlaces (system_after events).asked order events
  -- each request in the order was asked
  pub came : AllByRecursion (HasCome events) order
  -- at each moment the order can be cut in two
  pub in_time : (later moment : List (Event Q P R)) → events ≡ later ++ moment → Cut order moment

-- a client was told of the operation by this moment
abbrev pub IsTold : {Q P R : Type 0} → List (Event Q P R) → Operation Q R → Type 0
IsTold moment (Update shard item reply) =
    (request : _) × (any : _)
    × IsAmong (Replies shard item.client item.number request any) (system_after moment).claims
IsTold moment (Query shard client number request reply text told) = told < length moment

-- the first comes before the other in the order
pub record StandsBefore {A : Type 0} (one other : A) (order : List A) : Type 0 where
  pub first : List A
  pub between : List A
  pub rest : List A
  pub is : order ≡ first ++ one ∷ between ++ other ∷ rest

-- a client's number stands for one request of the shard
abbrev pub AreFresh : {Q : Type 0} → List (Ask Q) → Type 0
AreFresh asked =
    (shard client number : ℕ) (one other : Ask _) → WasAsked asked shard client number one
    → WasAsked asked shard client number other → one.request ≡ other.request

-- any request that the client asked under the operation's number is the operation's request
abbrev pub IsOwn : {Q R : Type 0} → List (Ask Q) → Operation Q R → Type 0
IsOwn asked (Update shard item reply) = IsOnlyAsk asked shard item.client item.number item.request
IsOwn asked (Query shard client number request reply text told) = IsOnlyAsk asked shard client number request
