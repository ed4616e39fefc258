-- A server's decisions about requests, and its transactions: exactly which ones, and when.
use Rattle.std.specs.Prelude.{ℕ, Bool, true, false, not, is_none, is_some, nat_lt, nat_le, ◌==◌, ◌&&◌, ◌||◌}
use Rattle.std.specs.Prelude.{if◌then◌else◌, Option}
use Rattle.std.specs.Prelude.{Some}
use Rattle.std.specs.Prelude.{None, ◌+◌, ◌-◌, List, [], ◌∷◌, ◌++◌, length}
use Rattle.std.specs.Option.{option_or}
use Rattle.std.specs.BTreeMap.{get}
use Rattle.std.specs.Ordering.{nat_cmp}
use Rattle.sm_envelope.specs.declared.envelope.TheConstants.{MOST_HOPS}
use Rattle.sm_ownership.specs.Rules.{accepts, forward_to}
use Rattle.sm_store.specs.declared.head.Head.{Head}
use Rattle.sm_store.specs.declared.item.Item.{Item}
use Rattle.sm_store.specs.declared.store_key.PassingKey.{PassingKey}
use Rattle.sm_store.specs.declared.store_key.PassingKey.TheVariants.{Batch, Part}
use Rattle.sm_shard.specs.declared.shard_limits.ShardLimits.{ShardLimits}
use Rattle.sm_store.specs.Clients.{floor_of}
use Rattle.sm_shard.specs.declared.replica.LastRequest.{LastRequest}
use Rattle.sm_shard.specs.declared.replica.Replica.{Replica}
use Rattle.sm_shard.specs.declared.shard_state.Decision.{Decision}
use Rattle.sm_shard.specs.declared.shard_state.Decision.TheVariants.{Replied, Passed, Waits, Forwards, Refused}
use Rattle.sm_shard.specs.declared.shard_state.Decision.TheVariants.{Forgotten, NotRead, TooFar, TooManyClients}
use Rattle.sm_shard.specs.declared.shard_state.Decision.TheVariants.{TooLarge, Busy}
use Rattle.sm_shard.specs.declared.base_work.BaseStage.{BaseStage}
use Rattle.sm_shard.specs.declared.base_work.BaseStage.TheVariants.{Written, Naming}
use Rattle.sm_shard.specs.declared.base_work.BaseWork.{BaseWork}
use Rattle.sm_shard.specs.declared.base_work.NamedBase.{NamedBase}
use Rattle.sm_shard.specs.declared.shard_state.ShardState.{ShardState}
use Rattle.sm_shard.specs.Bases.{kept_from}

-- the decision about a request from its client's last one, if that decides it
abbrev pub decided_by_last : {R : Type 0} → ℕ → Option (LastRequest R) → Option (Decision R)
decided_by_last number None = if number == 0 then Some Refused else None
decided_by_last number (Some last) =
    if number == last.number then Some (Replied last.reply)
    else if nat_lt number last.number then Some Passed
    else None

-- the decision about a request that was forwarded so often, and that its record doesn't accept
abbrev pub decided_by_forward : {R : Type 0} → ℕ → Option ℕ → Decision R
decided_by_forward hops None = Refused
decided_by_forward hops (Some to) = if nat_lt hops MOST_HOPS then Forwards to (hops + 1) else TooFar

-- a decision, or otherwise another one
abbrev pub decided_or : {R : Type 0} → Option (Decision R) → Decision R → Decision R
decided_or None other = other
decided_or (Some decision) other = decision

-- the number of the client's first request among these
abbrev pub client_number : {Q : Type 0} → ℕ → List (Item Q) → Option ℕ
client_number client [] = None
client_number client (item ∷ items) = if item.client == client then Some item.number else client_number client items

-- the decision about a request whose client has a request with this number here: it is that one, or is refused
abbrev pub decided_by_number : {R : Type 0} → ℕ → Option ℕ → Option (Decision R)
decided_by_number number None = None
decided_by_number number (Some other) = if other == number then Some Waits else Some Refused

-- the decision about a request whose client is forgotten below this number, once the requests that were sent or wait
-- here are made
abbrev pub decided_by_floor : {R : Type 0} → ℕ → ℕ → Option (Decision R)
decided_by_floor client floor = if nat_lt client floor then Some Refused else None

-- it would be one client more than allowed, even once those are forgotten that the request itself lets be forgotten
abbrev pub is_crowded : {M Q R : Type 0} → ShardLimits → Replica M R → Item Q → Bool
is_crowded limits replica item =
    is_none (get nat_cmp replica.lasts item.client)
    && nat_le limits.clients (length (kept_from item.forgets replica.lasts.entries))

-- how many clients' last requests a server keeps: none before it has read
abbrev pub clients_kept : {M Q R : Type 0} → Option (ShardState M Q R) → ℕ
clients_kept None = 0
clients_kept (Some ready) = length ready.replica.lasts.entries

-- the decision about a request that is new here, if so many wait, and if there may be no more clients
abbrev pub decided_by_room : {R : Type 0} → ShardLimits → ℕ → ℕ → Bool → Decision R
decided_by_room limits bytes waiting crowded =
    if nat_lt limits.batch_bytes bytes then TooLarge
    else if nat_le limits.waiting waiting then Busy
    else if crowded then TooManyClients
    else Waits

-- the decision by the requests that are made, if they decide: the client is forgotten, or by its last request
abbrev pub by_made : {M R : Type 0} → Replica M R → ℕ → ℕ → Option (Decision R)
by_made replica client number =
    if nat_lt client replica.floor then Some Forgotten else decided_by_last number (get nat_cmp replica.lasts client)

-- the decision by the requests that are made, if they decide
abbrev pub by_last : {M Q R : Type 0} → ShardState M Q R → Item Q → Option (Decision R)
by_last ready item = by_made ready.replica item.client item.number

-- the decision from the client's requests that were sent or wait, if they decide
abbrev pub by_waiting : {M Q R : Type 0} → ShardState M Q R → Item Q → Option (Decision R)
by_waiting ready item =
    option_or (decided_by_number item.number (client_number item.client ready.sent.items))
    (option_or (decided_by_number item.number (client_number item.client ready.waiting.items))
    (option_or (decided_by_floor item.client (floor_of ready.sent.items))
    (decided_by_floor item.client (floor_of ready.waiting.items))))

-- the decision about a request: first from the requests that were made; otherwise, if the record accepts it here, from
-- its client's requests that were sent or wait, and from the remaining room; otherwise it goes to the server to which
-- the record forwards it, if it may go that far, or is refused
abbrev pub decision_of : {M Q R : Type 0} → ShardLimits → (Q → ℕ) → ShardState M Q R → ℕ → Item Q → Decision R
decision_of limits size ready me item =
    decided_or (by_last ready item)
    (if accepts ready.state me item.mode
    then decided_or (by_waiting ready item)
    (decided_by_room limits (size item.request) (length ready.waiting.items)
    (is_crowded limits ready.replica item))
    else decided_by_forward item.hops (forward_to ready.state me))

-- it is new, and there is room for it
abbrev pub is_taken : {M Q R : Type 0} → ShardLimits → (Q → ℕ) → ShardState M Q R → ℕ → Item Q → Bool
is_taken limits size ready me item =
    is_none (by_last ready item)
    && (accepts ready.state me item.mode
    && (is_none (by_waiting ready item)
    && not (nat_lt limits.batch_bytes (size item.request) || (nat_le limits.waiting (length ready.waiting.items)
    || is_crowded limits ready.replica item))))

-- the waiting requests after the decision
abbrev pub waiting_after : {M Q R : Type 0} → ShardLimits → (Q → ℕ) → ShardState M Q R → ℕ → Item Q → List (Item Q)
waiting_after limits size ready me item =
    if is_taken limits size ready me item then ready.waiting.items ++ item ∷ [] else ready.waiting.items

-- the decision if the server has read, and if it hasn't, or must first catch up
abbrev pub server_decision : {M Q R : Type 0} → ShardLimits → (Q → ℕ) → Option (ShardState M Q R) → ℕ → Item Q
    → Decision R
server_decision limits size None me item = NotRead
server_decision limits size (Some ready) me item =
    if ready.decides then decision_of limits size ready me item else NotRead

-- the decision about a request that only reads: if the record accepts it here and there is room, it waits; otherwise it
-- goes to the server to which the record forwards it, if it may go that far, or is refused
abbrev pub read_decision_of : {M Q R : Type 0} → ShardLimits → ShardState M Q R → ℕ → Item Q → Decision R
read_decision_of limits ready me item =
    if accepts ready.state me item.mode
    then (if nat_le limits.waiting (length ready.asking.items) then Busy else Waits)
    else decided_by_forward item.hops (forward_to ready.state me)

-- which reads wait after the decision
abbrev pub asking_after : {M Q R : Type 0} → ShardLimits → ShardState M Q R → ℕ → Item Q → List (Item Q)
asking_after limits ready me item =
    if accepts ready.state me item.mode && not (nat_le limits.waiting (length ready.asking.items))
    then ready.asking.items ++ item ∷ []
    else ready.asking.items

-- the decision about a request that only reads, if the server has read, and if it hasn't, or must first catch up
abbrev pub server_read_decision : {M Q R : Type 0} → ShardLimits → Option (ShardState M Q R) → ℕ → Item Q → Decision R
server_read_decision limits None me item = NotRead
server_read_decision limits (Some ready) me item =
    if ready.decides then read_decision_of limits ready me item else NotRead

-- each part of the base is there, and no transaction that names it was sent
abbrev pub is_written : BaseStage → Bool
is_written Written = true
is_written _ = false

-- the transaction that names the base was sent
abbrev pub is_naming : BaseStage → Bool
is_naming Naming = true
is_naming _ = false

-- one more request of so many bytes fits into a batch that has so many, and has so much room: the first always does
abbrev pub goes_with : ShardLimits → ℕ → ℕ → ℕ → Bool
goes_with limits count room bytes = count == 0 || (nat_lt count limits.batch_requests && nat_le bytes room)

-- how many of the requests fit into a batch that has so many, and has so much room
abbrev pub batch_from : {Q : Type 0} → ShardLimits → (Q → ℕ) → ℕ → ℕ → List (Item Q) → ℕ
batch_from limits size count room [] = 0
batch_from limits size count room (item ∷ items) =
    if goes_with limits count room (size item.request)
    then batch_from limits size (count + 1) (room - size item.request) items + 1
    else 0

-- a base is there, and must be named
abbrev pub is_named_next : {R : Type 0} → Option (BaseWork R) → Bool
is_named_next None = false
is_named_next (Some work) = is_written work.stage

-- the base that the sent transaction makes the head name, if it does
abbrev pub named_by : {R : Type 0} → Option (BaseWork R) → Option NamedBase
named_by None = None
named_by (Some work) =
    if is_naming work.stage then Some (record { number = work.number; parts = length work.parts.items }) else None

-- how many requests go next: none if a base must be named, or if the head can't count one more batch; otherwise the
-- first, and as many after it as stay within the limits
abbrev pub batch_length : {M Q R : Type 0} → ShardLimits → (Q → ℕ) → ShardState M Q R → ℕ
batch_length limits size ready =
    if is_named_next ready.work || ready.head.batches == 18446744073709551615 then 0
    else batch_from limits size 0 limits.batch_bytes ready.waiting.items

-- a transaction was sent
abbrev pub is_under_way : {M Q R : Type 0} → ShardState M Q R → Bool
is_under_way ready =
    not (length ready.sent.items == 0) || (not (length ready.carried.items == 0) || is_some (named_by ready.work))

-- nothing is under way, and there is something to send
abbrev pub sends_now : {M Q R : Type 0} → ShardLimits → (Q → ℕ) → ShardState M Q R → Bool
sends_now limits size ready =
    not (is_under_way ready)
    && (is_named_next ready.work || not (batch_length limits size ready == 0 && length ready.asking.items == 0))

-- no base is being made, and there are batches that the last one doesn't replace
abbrev pub begins_base : {M Q R : Type 0} → ShardState M Q R → Bool
begins_base ready = is_none ready.work && nat_lt ready.head.base ready.head.batches

-- a base is begun
abbrev pub server_begins : {M Q R : Type 0} → Option (ShardState M Q R) → Bool
server_begins None = false
server_begins (Some ready) = begins_base ready

-- the base that a head names replaces the value at this key, or is newer than it
abbrev pub is_behind : ℕ → Head → PassingKey → Bool
is_behind shard head (Batch at number) = at == shard && nat_le number head.base
is_behind shard head (Part at number place) = at == shard && nat_lt number head.base
is_behind shard head _ = false

-- the base of the server's head has replaced the value at this key
abbrev pub server_behind : {M Q R : Type 0} → ℕ → Option (ShardState M Q R) → PassingKey → Bool
server_behind shard None key = false
server_behind shard (Some ready) key = is_behind shard ready.head key

-- the server decides with its readings
abbrev pub server_decides : {M Q R : Type 0} → Option (ShardState M Q R) → Bool
server_decides None = false
server_decides (Some ready) = ready.decides

-- the server decides, and no transaction of it is under way
abbrev pub server_settled : {M Q R : Type 0} → Option (ShardState M Q R) → Bool
server_settled None = false
server_settled (Some ready) = ready.decides && not (is_under_way ready)

-- how many batches the server has made: none before it has read
abbrev pub batches_made : {M Q R : Type 0} → Option (ShardState M Q R) → ℕ
batches_made None = 0
batches_made (Some ready) = ready.head.batches

-- the server has something to send
abbrev pub server_sends : {M Q R : Type 0} → ShardLimits → (Q → ℕ) → Option (ShardState M Q R) → Bool
server_sends limits size None = false
server_sends limits size (Some ready) = sends_now limits size ready
