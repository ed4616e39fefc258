-- The knowledge of a server stays true.
use Rattle.std.proofs.Common.{◌≡◌, ◌≢◌, ℕ, ◌<◌, true, false, List, [], ◌∷◌, ◌++◌, refl, sym, ap, subst, ◌∙◌, arith}
use Rattle.std.proofs.Common.{◌≤◌, length, map, append_assoc, append-nil, inl, inr, ◌+◌, ◌-◌, drop, take}
use Rattle.std.specs.Prelude.{Bool, Option, Some, None, IfNone, IfSome, Result, Ok, Err, IfOk, OnErr, ◌==◌, IsTrue}
use Rattle.std.specs.Prelude.{OnOk, is_none, nat_le, nat_lt, not, ◌&&◌}
use Rattle.std.specs.Prelude.{if◌then◌else◌}
use Rattle.std.specs.Global.{Vec}
use Rattle.std.specs.List.{AllByRecursion}
use Rattle.sm_store.specs.declared.store_key.PassingKey.{PassingKey}
use Rattle.std.proofs.lemmas.Bool.{and_parts, eq-eqb, ne_eqb, true≢false}
use Rattle.std.proofs.lemmas.Bool.Decides.{nat_tests}
use Rattle.std.proofs.lemmas.List.{take-append-drop}
use Rattle.std.proofs.lemmas.Option.{none-some}
use Rattle.sm_ownership.specs.declared.record.Record.{Record}
use Rattle.sm_ownership.specs.Rules.{accepts}
use Rattle.sm_shard.specs.Bases.{Part, base_of}
use Rattle.sm_shard.specs.declared.base_work.BaseWork.{BaseWork}
use Rattle.sm_shard.specs.declared.base_work.NamedBase.{NamedBase}
use Rattle.sm_store.specs.declared.compare.Compare.{Compare}
use Rattle.sm_store.specs.declared.head.Head.{Head}
use Rattle.sm_store.specs.declared.item.Item.{Item}
use Rattle.sm_store.specs.Clients.{AreNext, Automaton, ComesNext, IsOver, floor_of, last_of, reply_in, state_after}
use Rattle.sm_store.specs.Store.{IsRising, Transaction, all_hold, head_key, made, made_at, record_key, revision_of}
use Rattle.sm_store.specs.Store.{stored_record}
use Rattle.sm_store.specs.Deeds.{AreAccepted, Charter, Checking, Executing, MayClear, MayExecute, MayName, MaySend}
use Rattle.sm_store.specs.Deeds.{Naming, ShardLog, WasFound}
use Rattle.sm_store.specs.Deeds.{at, shard_log, transaction_of}
use Rattle.sm_store.specs.System.{Ask, Claim, IsAmong, IsSo, MayClaim, Overtaken, Reads, Replies}
use Rattle.sm_store.specs.lemmas.Growth.{so_grows, next_split}
use Rattle.sm_store.specs.lemmas.Heart.{first_held, stood_then}
use Rattle.sm_store.specs.lemmas.Logs.{all_among, all_map}
use Rattle.sm_store.specs.lemmas.Numbers.{floor-append, last-append, next-append, next_front, reply-append}
use Rattle.sm_store.specs.lemmas.Numbers.{unused}
use Rattle.sm_store.specs.lemmas.Views.{log_view}
use Rattle.sm_shard.specs.declared.shard_limits.ShardLimits.{ShardLimits}
use Rattle.sm_shard.specs.declared.replica.MadeReply.{MadeReply}
use Rattle.sm_shard.specs.declared.shard_state.Decision.{Decision}
use Rattle.sm_shard.specs.declared.shard_state.Decision.TheVariants.{Replied, Passed, Waits, Forwards, Refused}
use Rattle.sm_shard.specs.declared.shard_state.Decision.TheVariants.{Forgotten, NotRead, TooFar, TooLarge}
use Rattle.sm_shard.specs.declared.shard_state.Decision.TheVariants.{TooManyClients, Busy}
use Rattle.sm_shard.specs.declared.shard_state.ShardState.{ShardState}
use Rattle.sm_shard.specs.Decisions.{batch_from, batch_length, begins_base, decided_by_number, goes_with, client_number}
use Rattle.sm_shard.specs.Decisions.{asking_after, is_behind, is_taken, named_by, waiting_after}
use Rattle.sm_shard.specs.Replicas.{IsReplica, ToldRead, read_of, replies_of}
use Rattle.sm_shard.specs.Steps.{ArePast, bases_of, transactions_of}
use Rattle.sm_shard.specs.ShardServers.{AreAskedOf, AreRequestsAskedOf, AreWritten, DidHold, HasRead, IsAsked}
use Rattle.sm_shard.specs.ShardServers.{IsAskedBy, IsButWork, IsDecided, IsFlushed, IsNewBase, IsShardState}
use Rattle.sm_shard.specs.ShardServers.{IsUnflushed, IsWorkTrue, StoreLog, StoreSystem, WasMade, WereMade, claimed_all}
use Rattle.sm_shard.specs.ShardServers.{claimed_by, claimed_read, claimed_reads, named_at, named_now, sent_transaction}
use Rattle.sm_shard.specs.ShardServers.{transaction_for, written_now}
use Rattle.sm_shard.proofs.Replies.{reply_new, state-append}
use Rattle.sm_shard.proofs.Works.{base_begun, base_later, base_written, bases_may, clear_may, head_found, lt_of}
use Rattle.sm_shard.proofs.Works.{name_may}

pub all-append : {A : Type 0} (P : A → Type 0) (xs ys : List A) → AllByRecursion P xs → AllByRecursion P ys
    → AllByRecursion P (xs ++ ys)
all-append P [] ys all more = more
all-append P (x ∷ xs) ys all more = (all.0, all-append P xs ys all.1 more)

all-front : {A : Type 0} (P : A → Type 0) (xs ys : List A) → AllByRecursion P (xs ++ ys) → AllByRecursion P xs
all-front P [] ys all = tt
all-front P (x ∷ xs) ys all = (all.0, all-front P xs ys all.1)

all-back : {A : Type 0} (P : A → Type 0) (xs ys : List A) → AllByRecursion P (xs ++ ys) → AllByRecursion P ys
all-back P [] ys all = all
all-back P (x ∷ xs) ys all = all-back P xs ys all.1

pub ok_map : {A E : Type 0} (P R : A → Type 0) (result : Result A E) → ((x : A) → P x → R x) → IfOk result P
    → IfOk result R
ok_map P R (Ok x) f all_hold = f x all_hold
ok_map P R (Err e) f all_hold = all_hold

pub some_of : {A : Type 0} (P : A → Type 0) (found : Option A) (x : A) → found ≡ Some x → IfSome found P → P x
some_of P found x is all_hold = subst (λ o. IfSome o P) is all_hold

decided_some : {A : Type 0} (b : Bool) (x y : A) → (if b then Some x else Some y) ≡ None → ⊥
decided_some true x y is = none-some x (sym is)
decided_some false x y is = none-some y (sym is)

-- if a client's number decides nothing, it has none here
pub unnumbered : {R P : Type 0} (number : ℕ) (found : Option ℕ) → None ≡ decided_by_number {R = R} number found
    → IfNone found P → P
unnumbered number None is none = none
unnumbered {R = R} number (Some other) is none =
    let waits : Decision R = Waits in
    let refused : Decision R = Refused in
    absurd (decided_some (other == number) waits refused (sym is))

-- two facts about an existing value are one
pub both_so : {A : Type 0} (found : Option A) (P Q : A → Type 0) → IfSome found P → IfSome found Q
    → IfSome found (λ x. P x × Q x)
both_so None P Q p q = tt
both_so (Some x) P Q p q = (p, q)

pub both_of : {A : Type 0} (found : Option A) (P R : A → Type 0) → IfSome found (λ x. P x × R x)
    → IfSome found P × IfSome found R
both_of None P R both = (both, both)
both_of (Some x) P R both = both

-- a list of some length has something
pub some_by_length : {A : Type 0} (xs : List A) (n : ℕ) → n ≡ length xs → (n == 0) ≡ false → xs ≢ []
some_by_length xs n len some none =
    let zero_long : n ≡ 0 = len ∙ ap length none in true≢false (sym (eq-eqb n 0 zero_long) ∙ some)

pub none_by_length : {A : Type 0} (xs : List A) (n : ℕ) → n ≡ length xs → (n == 0) ≡ true → xs ≡ []
none_by_length [] n len is = refl
none_by_length (x ∷ xs) n len is = let zero_long : n ≡ 0 = grind (arith, nat_tests) in absurd (omega arith)

-- a head is determined by its numbers
pub head_by_fields : (head : Head) (batches base parts : ℕ) → head.batches ≡ batches → head.base ≡ base → head.parts
    ≡ parts
    → head ≡ record { batches = batches; base = base; parts = parts }
head_by_fields head batches base parts a b c =
    subst (λ (n : ℕ). head ≡ record { batches = batches; base = base; parts = n }) c
    (subst (λ (n : ℕ). head ≡ record { batches = batches; base = n; parts = head.parts }) b
    (subst (λ (n : ℕ). head ≡ record { batches = n; base = head.base; parts = head.parts }) a refl))

-- something is written
heads_some : {A : Type 0} (x : A) (xs : List A) → x ∷ xs ≢ []
heads_some x xs none = cc

module _ {Q : Type 0} where
  -- none of the client's is among one more of another client
  pub last_none_push : (client : ℕ) (items : List (Item Q)) (item : Item Q) → last_of client items ≡ 0
      → item.client ≢ client → last_of client (items ++ item ∷ []) ≡ 0
  last_none_push client items item none apart =
      let no : (item.client == client) ≡ false = grind (arith, nat_tests) in
      let one : last_of client (item ∷ []) ≡ 0 = rw no refl in
      let both = last-append client items (item ∷ []) in
      omega arith

  -- the first request of a client is this one
  pub number_here : (client : ℕ) (item : Item Q) (items : List (Item Q)) → item.client ≡ client
      → client_number client (item ∷ items) ≡ Some item.number
  number_here client item items same = rw (eq-eqb item.client client same) refl

  -- or is among the others
  pub number_later : (client : ℕ) (item : Item Q) (items : List (Item Q)) → item.client ≢ client
      → client_number client (item ∷ items) ≡ client_number client items
  number_later client item items apart = rw (ne_eqb item.client client apart) refl

  -- one more request that is accepted, and comes next
  pub accepted_push : (state : Record) (server : ℕ) (before items : List (Item Q)) (item : Item Q)
      → AreAccepted state server before items → IsTrue (accepts state server item.mode)
      → ComesNext before item → last_of item.client items ≡ 0 → floor_of items ≤ item.client
      → AreAccepted state server before (items ++ item ∷ [])
  accepted_push state server before items item are accepted comes none kept =
      let both = last-append item.client before items in
      let floors = floor-append before items in
      let above = comes.above in
      let known = comes.known in
      let next : ComesNext (before ++ items) item = record { known = omega arith; above = omega arith } in
      record {
        accepted = all-append (λ (one : Item Q). IsTrue (accepts state server one.mode)) items (item ∷ []) are.accepted
            (accepted, tt);
        next = next-append before items (item ∷ []) are.next (next, tt);
      }

  pub accepted_front : (state : Record) (server : ℕ) (before xs ys : List (Item Q))
      → AreAccepted state server before (xs ++ ys) → AreAccepted state server before xs
  accepted_front state server before xs ys are = record {
    accepted =
        all-front (λ (one : Item Q). IsTrue (accepts state server one.mode)) xs ys are.accepted;
    next =
        next_front before xs ys are.next;
  }

  pub accepted_back : (state : Record) (server : ℕ) (before xs ys : List (Item Q))
      → AreAccepted state server before (xs ++ ys) → AreAccepted state server (before ++ xs) ys
  accepted_back state server before xs ys are = record {
    accepted =
        all-back (λ (one : Item Q). IsTrue (accepts state server one.mode)) xs ys are.accepted;
    next =
        next_split before xs ys are.next;
  }

pub head_compared :
    {Q : Type 0} (R : Type 0) (shard me : ℕ) (base : Option NamedBase) (items : List (Item Q)) (head : Head)
    (stood logged : ℕ) → IsAmong (at (head_key shard) logged)
    (transaction_for {Q = Q} {R = R} shard me base items head stood logged).compares
head_compared R shard me None [] head stood logged = inr (inl refl)
head_compared R shard me (Some base) [] head stood logged = inl refl
head_compared R shard me base (item ∷ items) head stood logged = inr (inl refl)

-- the compares of a transaction for a shard's requests
abbrev both_compares : ℕ → ℕ → ℕ → List Compare
both_compares shard stood logged = at (record_key shard) stood ∷ at (head_key shard) logged ∷ []

module _ {Q R : Type 0} where
  both_hold : (past : StoreLog Q R) (shard stood logged : ℕ) → all_hold past (both_compares shard stood logged) ≡ true
      → revision_of (head_key shard) past ≡ logged
  both_hold past shard stood logged held =
      let first = first_held past (record_key shard) stood (at (head_key shard) logged ∷ []) held in
      (first_held past (head_key shard) logged [] first.1).0

  -- if the compares hold, the head is the one that was read
  pub head_held : (past : StoreLog Q R) (shard me : ℕ) (base : Option NamedBase) (items : List (Item Q)) (head : Head)
      (stood logged : ℕ)
      → all_hold past (transaction_for {Q = Q} {R = R} shard me base items head stood logged).compares ≡ true
      → revision_of (head_key shard) past ≡ logged
  head_held past shard me None [] head stood logged held = both_hold past shard stood logged held
  head_held past shard me (Some base) [] head stood logged held =
      (first_held past (head_key shard) logged [] held).0
  head_held past shard me base (item ∷ items) head stood logged held = both_hold past shard stood logged held

  pub executing : (shard me : ℕ) (base : Option NamedBase) (items : List (Item Q)) (head : Head) (stood logged : ℕ)
      → items ≢ [] → transaction_for {Q = Q} {R = R} shard me base items head stood logged
      ≡ transaction_of (Executing shard me items head stood logged)
  executing shard me base [] head stood logged some = absurd (some refl)
  executing shard me base (item ∷ items) head stood logged some = refl

  -- if nothing is sent, the head names the base
  pub names : (shard me : ℕ) (base : NamedBase) (items : List (Item Q)) (head : Head) (stood logged : ℕ)
      → items ≡ [] → transaction_for {Q = Q} {R = R} shard me (Some base) items head stood logged
      ≡ transaction_of (Naming shard head base.number base.parts logged)
  names shard me base [] head stood logged none = refl
  names shard me base (item ∷ items) head stood logged none = absurd cc

-- how many go into a batch, one more or none
module _ {Q : Type 0} (limits : ShardLimits) (size : Q → ℕ) where
  pub batch_more : (count room : ℕ) (item : Item Q) (items : List (Item Q))
      → goes_with limits count room (size item.request) ≡ true
      → batch_from limits size count room (item ∷ items)
      ≡ batch_from limits size (count + 1) (room - size item.request) items + 1
  batch_more count room item items goes = rw goes refl

  pub batch_full : (count room : ℕ) (item : Item Q) (items : List (Item Q))
      → goes_with limits count room (size item.request) ≡ false
      → batch_from limits size count room (item ∷ items) ≡ 0
  batch_full count room item items full = rw full refl

-- the requests that were looked up here don't let the client be forgotten
pub floor_below : {Q : Type 0} (client floor : ℕ) (items list : List (Item Q)) → floor ≡ floor_of list → list ≡ items
    → floor ≤ client → floor_of items ≤ client
floor_below client floor items list is same within = subst (λ (k : ℕ). k ≤ client) (is ∙ ap floor_of same) within

module _ {M Q R : Type 0} (service : Automaton M Q R) where
  -- one more request waits
  pub ready_push : (me : ℕ) (before : List (Item Q)) (item : Item Q) (old new : ShardState M Q R) → new.state
      ≡ old.state → new.replica ≡ old.replica → new.sent.items ≡ old.sent.items → new.waiting.items
      ≡ old.waiting.items ++ item ∷ [] → IsTrue (accepts old.state me item.mode) → last_of item.client old.sent.items
      ≡ 0 → last_of item.client old.waiting.items ≡ 0 → floor_of old.sent.items ≤ item.client
      → floor_of old.waiting.items ≤ item.client → (IsReplica service before old.replica
      → (floor_of before ≤ item.client) × (last_of item.client before < item.number))
      → IsShardState service me before old → IsShardState service me before new
  ready_push me before item old new state_is book_is sent_is waiting_is accepted unsent unwaiting first second next
      ready =
      let both = last-append item.client old.sent.items old.waiting.items in
      let floors = floor-append old.sent.items old.waiting.items in
      let now = next ready.replica in
      let one : AreAccepted old.state me before ((old.sent.items ++ old.waiting.items) ++ item ∷ []) =
      accepted_push old.state me before (old.sent.items ++ old.waiting.items) item ready.accepted accepted
      (record { known = now.0; above = now.1 }) (omega arith) (omega arith) in
      let items_are : (old.sent.items ++ old.waiting.items) ++ item ∷ [] ≡ new.sent.items ++ new.waiting.items =
      append_assoc old.sent.items old.waiting.items (item ∷ []) ∙ ap (λ (list : List (Item Q)). old.sent.items ++ list)
      (sym waiting_is) ∙ ap (λ (list : List (Item Q)). list ++ new.waiting.items) (sym sent_is) in
      record {
        replica = subst (IsReplica service before) (sym book_is) ready.replica;
        accepted = subst (λ (state : Record). AreAccepted state me before (new.sent.items ++ new.waiting.items))
            (sym state_is) (subst (AreAccepted old.state me before) items_are one);
      }

  -- a reply among the requests that were read is so
  pub reply_so : (shard : ℕ) (system : StoreSystem Q R) (read : ShardLog Q) (revision client number : ℕ) (request : Q)
      (answer : R) → WasFound (shard_log shard) (head_key shard) system.log read revision
      → reply_in service service.start read.items client number ≡ Some answer
      → MayClaim service system (Replies shard client number request answer)
  reply_so shard system read revision client number request answer found is =
      subst (λ (list : StoreLog Q R). IsSo service system.asked list (Replies shard client number request answer))
      (sym found.is)
      (so_grows service system.asked found.later found.past (Replies shard client number request answer)
      (subst (λ (l : ShardLog Q). reply_in service service.start l.items client number ≡ Some answer)
      (sym found.was) is))

  pub overtaken_so : (shard : ℕ) (system : StoreSystem Q R) (read : ShardLog Q) (revision client number : ℕ)
      → WasFound (shard_log shard) (head_key shard) system.log read revision → IsOver client number read.items
      → MayClaim service system (Overtaken shard client number)
  overtaken_so shard system read revision client number found is =
      subst (λ (list : StoreLog Q R). IsSo service system.asked list (Overtaken shard client number))
      (sym found.is)
      (so_grows service system.asked found.later found.past (Overtaken shard client number)
      (subst (λ (l : ShardLog Q). IsOver client number l.items) (sym found.was) is))

  -- the replies to requests that come next are so
  answers_so : (shard : ℕ) (system : StoreSystem Q R) (read : ShardLog Q) (revision : ℕ)
      → WasFound (shard_log shard) (head_key shard) system.log read revision → (before items : List (Item Q))
      → AreNext before items → before ++ items ≡ read.items
      → AllByRecursion (MayClaim service system)
      (claimed_all shard items (replies_of service (state_after service service.start before) items))
  answers_so shard system read revision found before [] next is = tt
  answers_so shard system read revision found before (item ∷ items) next is =
      let state = state_after service service.start before in
      let unmade = unused item.client item.number before next.0.above in
      let whole : (before ++ item ∷ []) ++ items ≡ read.items = append_assoc before (item ∷ []) items ∙ is in (
        reply_so shard system read revision item.client item.number item.request (service.reply state item.request)
            found
            (subst (λ (list : List (Item Q)). reply_in service service.start list item.client item.number
            ≡ Some (service.reply state item.request)) whole
            (reply-append service service.start (before ++ item ∷ []) items item.client item.number
            (service.reply state item.request) (reply_new service service.start before item unmade))),
        subst (λ (s : M). AllByRecursion (MayClaim service system) (claimed_all shard items
            (replies_of service s items)))
            (state-append service service.start before item)
            (answers_so shard system read revision found (before ++ item ∷ []) items next.1 whole),
      )

  pub decided_so : (shard me : ℕ) (system : StoreSystem Q R) (state : Record) (read : ShardLog Q)
      (revision : ℕ) (item : Item Q) → WasFound (shard_log shard) (head_key shard) system.log read revision
      → (decision : Decision R)
      → IsDecided service state me read.items item.client item.number decision
      → AllByRecursion (MayClaim service system) (claimed_by shard item decision)
  decided_so shard me system state read revision item found (Replied answer) is =
      (reply_so shard system read revision item.client item.number item.request answer found is, tt)
  decided_so shard me system state read revision item found Passed is =
      (overtaken_so shard system read revision item.client item.number found (inl is), tt)
  decided_so shard me system state read revision item found Forgotten is =
      (overtaken_so shard system read revision item.client item.number found (inr is), tt)
  decided_so shard me system state read revision item found Waits is = tt
  decided_so shard me system state read revision item found (Forwards to hops) is = tt
  decided_so shard me system state read revision item found TooFar is = tt
  decided_so shard me system state read revision item found Refused is = tt
  decided_so shard me system state read revision item found NotRead is = tt
  decided_so shard me system state read revision item found TooLarge is = tt
  decided_so shard me system state read revision item found TooManyClients is = tt
  decided_so shard me system state read revision item found Busy is = tt

  -- the transaction may be sent
  pub may_send : (charter : Charter Q (Part R)) (log : StoreLog Q R) (me shard : ℕ) (ready : ShardState M Q R)
      → shard < charter.count → me ≢ 0 → HasRead service log me shard ready
      → MayExecute charter log shard me ready.sent.items ready.head ready.stood ready.logged
  may_send charter log me shard ready within named knows = record {
    within = within;
    named = named;
    state = ready.state;
    record_was = knows.stood;
    before = knows.before;
    log_was = knows.logged;
    accepted = accepted_front ready.state me knows.before ready.sent.items ready.waiting.items knows.is.accepted;
  }

  -- the log that the server had read was there when its transaction was made
  log_then : (log : StoreLog Q R) (me shard : ℕ) (ready : ShardState M Q R) → IsRising log
      → (knows : HasRead service log me shard ready)
      → (later past : StoreLog Q R) → log ≡ later ++ past → all_hold past (sent_transaction me shard ready).compares
      ≡ true
      → shard_log shard past ≡ record { head = ready.head; items = knows.before }
  log_then log me shard ready rising knows later past is held =
      stood_then (shard_log shard) (head_key shard) (log_view shard) log
      (record { head = ready.head; items = knows.before })
      ready.logged rising (inl refl) knows.logged later past is
      (head_held past shard me (named_by ready.work) ready.sent.items ready.head ready.stood ready.logged held)

  -- the log was so once the transaction was made
  pub made_then : (log : StoreLog Q R) (me shard revision : ℕ) (ready : ShardState M Q R) → IsRising log
      → (knows : HasRead service log me shard ready) → ready.sent.items ≢ []
      → WereMade log me shard revision ready
      → WasFound (shard_log shard) (head_key shard) log
      (record {
        head = record { batches = ready.head.batches + 1; base = ready.head.base; parts = ready.head.parts };
        items = knows.before ++ ready.sent.items;
      }) revision
  made_then log me shard revision ready rising knows some were_made =
      let txn : Transaction Q (Part R) =
      transaction_of (Executing shard me ready.sent.items ready.head ready.stood ready.logged) in
      let txn_is : sent_transaction me shard ready ≡ txn =
      executing shard me (named_by ready.work) ready.sent.items ready.head ready.stood ready.logged some in
      let writes : (sent_transaction me shard ready).writes ≢ [] =
      λ none. heads_some _ _ (sym (ap (λ (t : Transaction Q (Part R)). t.writes) txn_is) ∙ none) in
      let was_made : WasMade log txn revision =
      subst (λ (t : Transaction Q (Part R)). WasMade log t revision) txn_is (were_made writes) in
      let held : all_hold was_made.past (sent_transaction me shard ready).compares ≡ true =
      ap (λ (t : Transaction Q (Part R)). all_hold was_made.past t.compares) txn_is ∙ was_made.held in
      let was = log_then log me shard ready rising knows (was_made.later ++ made_at revision txn ∷ []) was_made.past
      (was_made.is ∙ sym (append_assoc was_made.later (made_at revision txn ∷ []) was_made.past)) held in
      let same : (shard == shard) ≡ true = eq-eqb shard shard refl in
      record {
        later = was_made.later;
        past = made_at revision txn ∷ was_made.past;
        is = was_made.is;
        at = rw same refl;
        was = rw same (rw (append-nil ready.sent.items) (ap (λ (l : ShardLog Q). record {
          head =
              record { batches = ready.head.batches + 1; base = ready.head.base; parts = ready.head.parts };
          items =
              l.items ++ ready.sent.items;
        }) was));
      }

  -- and so once the head named the base
  named_then : (log : StoreLog Q R) (me shard revision : ℕ) (ready : ShardState M Q R) (base : NamedBase)
      → IsRising log → (knows : HasRead service log me shard ready) → ready.sent.items ≡ []
      → named_by ready.work ≡ Some base → WereMade log me shard revision ready
      → WasFound (shard_log shard) (head_key shard) log
      (record {
        head = record { batches = ready.head.batches; base = base.number; parts = base.parts };
        items = knows.before;
      }) revision
  named_then log me shard revision ready base rising knows none is were_made =
      let txn : Transaction Q (Part R) =
      transaction_of (Naming shard ready.head base.number base.parts ready.logged) in
      let txn_is : sent_transaction me shard ready ≡ txn =
      ap (λ (b : Option NamedBase). transaction_for shard me b ready.sent.items ready.head ready.stood ready.logged) is
      ∙ names shard me base ready.sent.items ready.head ready.stood ready.logged none in
      let writes : (sent_transaction me shard ready).writes ≢ [] =
      λ nothing. heads_some _ _ (sym (ap (λ (t : Transaction Q (Part R)). t.writes) txn_is) ∙ nothing) in
      let was_made : WasMade log txn revision =
      subst (λ (t : Transaction Q (Part R)). WasMade log t revision) txn_is (were_made writes) in
      let held : all_hold was_made.past (sent_transaction me shard ready).compares ≡ true =
      ap (λ (t : Transaction Q (Part R)). all_hold was_made.past t.compares) txn_is ∙ was_made.held in
      let was = log_then log me shard ready rising knows (was_made.later ++ made_at revision txn ∷ []) was_made.past
      (was_made.is ∙ sym (append_assoc was_made.later (made_at revision txn ∷ []) was_made.past)) held in
      let same : (shard == shard) ≡ true = eq-eqb shard shard refl in
      record {
        later = was_made.later;
        past = made_at revision txn ∷ was_made.past;
        is = was_made.is;
        at = rw same refl;
        was = rw same (rw (append-nil (made shard was_made.past)) (ap (λ (l : ShardLog Q). record {
          head = record { batches = ready.head.batches; base = base.number; parts = base.parts };
          items = l.items;
        }) was));
      }

  knows_at : (log : StoreLog Q R) (me shard revision : ℕ) (ready : ShardState M Q R) (base : Option NamedBase)
      → IsRising log → HasRead service log me shard ready → ready.sent.items ≡ [] → named_by ready.work ≡ base
      → WereMade log me shard revision ready → HasRead service log me shard (named_at revision base ready)
  knows_at log me shard revision ready None rising knows none is were_made = knows
  knows_at log me shard revision ready (Some base) rising knows none is were_made = record {
    stood = knows.stood;
    before = knows.before;
    logged = named_then log me shard revision ready base rising knows none is were_made;
    is = record { replica = knows.is.replica; accepted = knows.is.accepted };
    base = tt;
  }

  -- the server goes on from the point at which the head names the base that was sent, if one was
  pub knows_named : (log : StoreLog Q R) (me shard revision : ℕ) (ready : ShardState M Q R) → IsRising log
      → HasRead service log me shard ready → ready.sent.items ≡ [] → WereMade log me shard revision ready
      → HasRead service log me shard (named_now revision ready)
  knows_named log me shard revision ready rising knows none were_made =
      knows_at log me shard revision ready (named_by ready.work) rising knows none refl were_made

  -- with other reads under way
  abbrev pub carrying : ShardState M Q R → Vec (Item Q) → ShardState M Q R
  carrying ready carried = record {
    state = ready.state;
    stood = ready.stood;
    replica = ready.replica;
    head = ready.head;
    logged = ready.logged;
    sent = ready.sent;
    waiting = ready.waiting;
    carried = carried;
    asking = ready.asking;
    work = ready.work;
    decides = ready.decides;
  }

  pub knows_settled : (log : StoreLog Q R) (me shard revision : ℕ) (ready : ShardState M Q R) (carried : Vec (Item Q))
      → IsRising log → HasRead service log me shard ready → ready.sent.items ≡ [] → WereMade log me shard revision ready
      → HasRead service log me shard (named_now revision (carrying ready carried))
  knows_settled log me shard revision ready carried rising knows none were_made =
      knows_named log me shard revision (carrying ready carried) rising
      (record {
        stood = knows.stood;
        before = knows.before;
        logged = knows.logged;
        is = record { replica = knows.is.replica; accepted = knows.is.accepted };
        base = knows.base;
      })
      none were_made

  pub none_made : (found : Option (ShardState M Q R)) (old : ShardState M Q R) → found ≡ Some old
      → old.sent.items ≡ [] → (made : List (MadeReply R)) → made ≡ []
      → IfSome found (λ ready. made ≡ replies_of service ready.replica.machine ready.sent.items)
  none_made found old is none made made_is =
      subst (λ (o : Option (ShardState M Q R)). IfSome o (λ ready. made
      ≡ replies_of service ready.replica.machine ready.sent.items)) (sym is)
      (made_is ∙ sym (ap (replies_of service old.replica.machine) none))

  asked_at : (asked : List (Ask Q)) (since shard revision : ℕ) (ready : ShardState M Q R) (base : Option NamedBase)
      → AreAskedOf asked since shard ready → AreAskedOf asked since shard (named_at revision base ready)
  asked_at asked since shard revision ready None are = are
  asked_at asked since shard revision ready (Some base) are =
      record { asking = are.asking; carried = are.carried }

  pub asked_named : (asked : List (Ask Q)) (since shard revision : ℕ) (ready : ShardState M Q R)
      (carried : Vec (Item Q)) → carried.items ≡ [] → AreAskedOf asked since shard ready
      → AreAskedOf asked since shard (named_now revision (carrying ready carried))
  asked_named asked since shard revision ready carried none are =
      asked_at asked since shard revision (carrying ready carried) (named_by ready.work)
      (record {
        asking = are.asking;
        carried = subst (AllByRecursion (IsAskedBy asked shard since)) (sym none) tt;
      })

  requests_at : (asked : List (Ask Q)) (shard revision : ℕ) (ready : ShardState M Q R) (base : Option NamedBase)
      → AreRequestsAskedOf asked shard ready → AreRequestsAskedOf asked shard (named_at revision base ready)
  requests_at asked shard revision ready None are = are
  requests_at asked shard revision ready (Some base) are = record { sent = are.sent; waiting = are.waiting }

  pub requests_named : (asked : List (Ask Q)) (shard revision : ℕ) (ready : ShardState M Q R) (carried : Vec (Item Q))
      → AreRequestsAskedOf asked shard ready
      → AreRequestsAskedOf asked shard (named_now revision (carrying ready carried))
  requests_named asked shard revision ready carried are =
      requests_at asked shard revision (carrying ready carried) (named_by ready.work)
      (record { sent = are.sent; waiting = are.waiting })

  -- the server goes on from there
  pub knows_made : (log : StoreLog Q R) (me shard revision : ℕ) (old new : ShardState M Q R) → IsRising log
      → (knows : HasRead service log me shard old) → old.sent.items ≢ []
      → WereMade log me shard revision old
      → new.state ≡ old.state → new.stood ≡ old.stood
      → new.head ≡ record { batches = old.head.batches + 1; base = old.head.base; parts = old.head.parts }
      → new.logged ≡ revision → new.sent.items ≡ [] → new.waiting.items ≡ old.waiting.items
      → IsReplica service (knows.before ++ old.sent.items) new.replica → new.work ≡ old.work
      → HasRead service log me shard new
  knows_made log me shard revision old new rising knows some were_made state_is stood_is head_is logged_is
      sent_is waiting_is replica work_is =
      let rest : AreAccepted old.state me (knows.before ++ old.sent.items) old.waiting.items =
      accepted_back old.state me knows.before old.sent.items old.waiting.items knows.is.accepted in
      let items_are : old.waiting.items ≡ new.sent.items ++ new.waiting.items =
      sym waiting_is ∙ ap (λ (list : List (Item Q)). list ++ new.waiting.items) (sym sent_is) in
      record {
        stood = subst (λ (r : ℕ). WasFound (stored_record shard) (record_key shard) log new.state r) (sym stood_is)
            (subst (λ (s : Record). WasFound (stored_record shard) (record_key shard) log s old.stood)
            (sym state_is) knows.stood);
        before = knows.before ++ old.sent.items;
        logged = subst (λ (r : ℕ). WasFound (shard_log shard) (head_key shard) log
            (record { head = new.head; items = knows.before ++ old.sent.items }) r) (sym logged_is)
            (subst (λ (h : Head). WasFound (shard_log shard) (head_key shard) log
            (record { head = h; items = knows.before ++ old.sent.items }) revision) (sym head_is)
            (made_then log me shard revision old rising knows some were_made));
        is = record {
          replica = replica;
          accepted = subst (λ (s : Record). AreAccepted s me (knows.before ++ old.sent.items)
              (new.sent.items ++ new.waiting.items)) (sym state_is)
              (subst (AreAccepted old.state me (knows.before ++ old.sent.items)) items_are rest);
        };
        base = subst (λ (o : Option (BaseWork R)). IfSome o (IsWorkTrue service log shard new.head)) (sym work_is)
            (base_later service log shard old.head new.head old.work (ap (λ (h : Head). h.base) head_is) knows.base);
      }

  -- nothing in its readings has changed
  pub knows_same : (log : StoreLog Q R) (me shard : ℕ) (old new : ShardState M Q R) → new.state ≡ old.state → new.stood
      ≡ old.stood
      → new.head ≡ old.head → new.logged ≡ old.logged
      → ((before : List (Item Q)) → IsShardState service me before old
      → IsShardState service me before new)
      → (IfSome old.work (IsWorkTrue service log shard old.head)
      → IfSome new.work (IsWorkTrue service log shard new.head))
      → HasRead service log me shard old → HasRead service log me shard new
  knows_same log me shard old new state_is stood_is head_is logged_is kept kept_base knows = record {
    stood = subst (λ (r : ℕ). WasFound (stored_record shard) (record_key shard) log new.state r) (sym stood_is)
        (subst (λ (s : Record). WasFound (stored_record shard) (record_key shard) log s old.stood)
        (sym state_is) knows.stood);
    before = knows.before;
    logged = subst (λ (r : ℕ). WasFound (shard_log shard) (head_key shard) log
        (record { head = new.head; items = knows.before }) r) (sym logged_is)
        (subst (λ (h : Head). WasFound (shard_log shard) (head_key shard) log
        (record { head = h; items = knows.before }) old.logged) (sym head_is) knows.logged);
    is = kept knows.before knows.is;
    base = kept_base knows.base;
  }

  -- the base is the same
  pub same_base : (log : StoreLog Q R) (shard : ℕ) (old new : ShardState M Q R) → new.head ≡ old.head
      → new.work ≡ old.work → IfSome old.work (IsWorkTrue service log shard old.head)
      → IfSome new.work (IsWorkTrue service log shard new.head)
  same_base log shard old new head_is work_is was =
      subst (λ (h : Head). IfSome new.work (IsWorkTrue service log shard h)) (sym head_is)
      (subst (λ (o : Option (BaseWork R)). IfSome o (IsWorkTrue service log shard old.head)) (sym work_is) was)

  -- the claims of the replies are true
  pub told_made : (system : StoreSystem Q R) (me shard revision : ℕ) (ready : ShardState M Q R)
      (answers : List (MadeReply R)) → IsRising system.log
      → (knows : HasRead service system.log me shard ready) → ready.sent.items ≢ []
      → WereMade system.log me shard revision ready
      → answers ≡ replies_of service ready.replica.machine ready.sent.items
      → AllByRecursion (MayClaim service system) (claimed_all shard ready.sent.items answers)
  told_made system me shard revision ready answers rising knows some were_made is =
      let next = (accepted_front ready.state me knows.before ready.sent.items ready.waiting.items
      knows.is.accepted).next in
      let those : replies_of service (state_after service service.start knows.before) ready.sent.items ≡ answers =
      ap (λ (m : M). replies_of service m ready.sent.items) (sym knows.is.replica.machine) ∙ sym is in
      subst (λ (list : List (MadeReply R)). AllByRecursion (MayClaim service system)
      (claimed_all shard ready.sent.items list)) those
      (answers_so shard system _ revision (made_then system.log me shard revision ready rising knows some were_made)
      knows.before ready.sent.items next refl)

  -- the same for a server that has read
  pub made_told : (system : StoreSystem Q R) (me shard revision : ℕ) (found : Option (ShardState M Q R))
      (ready : ShardState M Q R) → found ≡ Some ready → (answers : List (MadeReply R))
      → AllByRecursion (MayClaim service system) (claimed_all shard ready.sent.items answers)
      → IfSome found (λ r. AllByRecursion (MayClaim service system) (claimed_all shard r.sent.items answers))
  made_told system me shard revision found ready is answers all =
      subst (λ (o : Option (ShardState M Q R)). IfSome o (λ r. AllByRecursion (MayClaim service system)
      (claimed_all shard r.sent.items answers))) (sym is) all

  -- nothing is claimed if nothing was sent
  pub none_told : (system : StoreSystem Q R) (shard : ℕ) (ready : ShardState M Q R) (answers : List (MadeReply R))
      → ready.sent.items ≡ []
      → AllByRecursion (MayClaim service system) (claimed_all shard ready.sent.items answers)
  none_told system shard ready answers none =
      subst (λ (list : List (Item Q)). AllByRecursion (MayClaim service system) (claimed_all shard list answers))
      (sym none) tt

  -- a read that was carried may be claimed once its transaction held
  read_may : (system : StoreSystem Q R) (since me shard : ℕ) (ready : ShardState M Q R)
      → HasRead service system.log me shard ready
      → DidHold system.held since (sent_transaction me shard ready)
      → (item : Item Q) → IsAskedBy system.asked shard since item → IsTrue (service.reads item.request)
      → MayClaim service system (Reads shard item.client item.number item.request
      (service.reply ready.replica.machine item.request) (service.text ready.replica.machine item.request))
  read_may system since me shard ready knows did item asked reads =
      let in_time = asked.3 in
      let sent_after = did.sent_after in
      let those : (sent_transaction me shard ready).compares ≡ did.one.txn.compares =
      sym (ap (λ (t : Transaction Q (Part R)). t.compares) did.txn_is) in
      record {
        ask = asked.0;
        was_asked = asked.1;
        request_is = asked.2;
        only_reads = reads;
        held = did.one;
        was_held = did.among;
        sent_after = omega arith;
        items = knows.before;
        revision = ready.logged;
        items_were = record {
          later = knows.logged.later;
          past = knows.logged.past;
          is = knows.logged.is;
          at = knows.logged.at;
          was = ap (λ (l : ShardLog Q). l.items) knows.logged.was;
        };
        compared = subst (IsAmong (at (head_key shard) ready.logged)) those
            (head_compared R shard me (named_by ready.work) ready.sent.items ready.head ready.stood ready.logged);
        answer_is = ap (λ (m : M). service.reply m item.request) knows.is.replica.machine;
        text_is = ap (λ (m : M). service.text m item.request) knows.is.replica.machine;
      }

  read_one : (system : StoreSystem Q R) (since me shard : ℕ) (ready : ShardState M Q R)
      → HasRead service system.log me shard ready
      → DidHold system.held since (sent_transaction me shard ready)
      → (item : Item Q) → IsAskedBy system.asked shard since item → (b : Bool) → service.reads item.request ≡ b
      → (others : List (Claim Q R)) → AllByRecursion (MayClaim service system) others
      → AllByRecursion (MayClaim service system)
      (claimed_read shard item.request item.client item.number
      (if b then Some (
        service.reply ready.replica.machine item.request,
        service.text ready.replica.machine item.request,
      ) else None) others)
  read_one system since me shard ready knows did item asked false is others all = all
  read_one system since me shard ready knows did item asked true is others all =
      (read_may system since me shard ready knows did item asked is, all)

  -- the claims of a transaction's reads may be made once it held
  pub reads_may : (system : StoreSystem Q R) (since me shard : ℕ) (ready : ShardState M Q R)
      → HasRead service system.log me shard ready
      → DidHold system.held since (sent_transaction me shard ready)
      → (items : List (Item Q)) → AllByRecursion (IsAskedBy system.asked shard since) items
      → AllByRecursion (MayClaim service system)
      (claimed_reads shard items (map (read_of service ready.replica.machine) items))
  reads_may system since me shard ready knows did [] asked = tt
  reads_may system since me shard ready knows did (item ∷ items) asked =
      read_one system since me shard ready knows did item asked.0 (service.reads item.request) refl
      (claimed_reads shard items (map (read_of service ready.replica.machine) items))
      (reads_may system since me shard ready knows did items asked.1)

  -- the reads of a server that has read
  pub reads_told :
      (system : StoreSystem Q R) (since me shard : ℕ) (found : Option (ShardState M Q R))
      (ready : ShardState M Q R) → found ≡ Some ready
      → IfSome found (λ r. HasRead service system.log me shard r)
      → IfSome found (λ r. AreAskedOf system.asked since shard r)
      → IfSome found (λ r. DidHold system.held since (sent_transaction me shard r))
      → (items : List (Item Q)) → items ≡ ready.carried.items → (answers : List (ToldRead R))
      → answers ≡ map (read_of service ready.replica.machine) items
      → IfSome found (λ r. AllByRecursion (MayClaim service system) (claimed_reads shard r.carried.items answers))
  reads_told system since me shard found ready is known asked held items items_are answers are =
      let knows = subst (λ (o : Option (ShardState M Q R)). IfSome o (λ r. HasRead service system.log me shard
      r)) is known in
      let were = subst (λ (o : Option (ShardState M Q R)). IfSome o (λ r. AreAskedOf system.asked since shard r)) is
      asked in
      let did = subst (λ (o : Option (ShardState M Q R)). IfSome o (λ r. DidHold system.held since
      (sent_transaction me shard r))) is held in
      subst (λ (o : Option (ShardState M Q R)). IfSome o (λ r. AllByRecursion (MayClaim service system)
      (claimed_reads shard r.carried.items answers))) (sym is)
      (subst (λ (list : List (ToldRead R)). AllByRecursion (MayClaim service system)
      (claimed_reads shard ready.carried.items list))
      (sym (are ∙ ap (map (read_of service ready.replica.machine)) items_are))
      (reads_may system since me shard ready knows did ready.carried.items were.carried))

  -- a part of the waiting requests goes, if nothing was sent before
  pub flushed : (limits : ShardLimits) (size : Q → ℕ) (me : ℕ) (before : List (Item Q)) (old new : ShardState M Q R)
      → new.state ≡ old.state → new.replica ≡ old.replica → old.sent.items ≡ [] → IsFlushed limits size old new
      → IsShardState service me before old → IsShardState service me before new
  flushed limits size me before old new state_is replica_is none flush ready =
      let count = batch_length limits size old in
      let items_are : old.sent.items ++ old.waiting.items ≡ new.sent.items ++ new.waiting.items =
      ap (λ (list : List (Item Q)). list ++ old.waiting.items) none ∙ sym (take-append-drop count old.waiting.items)
      ∙ ap (λ (list : List (Item Q)). list ++ drop count old.waiting.items) (sym flush.sent)
      ∙ ap (λ (list : List (Item Q)). new.sent.items ++ list) (sym flush.waiting) in
      record {
        replica = subst (IsReplica service before) (sym replica_is) ready.replica;
        accepted = subst (λ (state : Record). AreAccepted state me before (new.sent.items ++ new.waiting.items))
            (sym state_is) (subst (AreAccepted old.state me before) items_are ready.accepted);
      }

  -- and nothing changes if nothing goes
  pub unflushed : (me : ℕ) (before : List (Item Q)) (old new : ShardState M Q R)
      → new.state ≡ old.state → new.replica ≡ old.replica → IsUnflushed old new
      → IsShardState service me before old → IsShardState service me before new
  unflushed me before old new state_is replica_is same ready =
      let items_are : old.sent.items ++ old.waiting.items ≡ new.sent.items ++ new.waiting.items =
      ap (λ (list : List (Item Q)). list ++ old.waiting.items) (sym same.sent)
      ∙ ap (λ (list : List (Item Q)). new.sent.items ++ list) (sym same.waiting) in
      record {
        replica = subst (IsReplica service before) (sym replica_is) ready.replica;
        accepted = subst (λ (state : Record). AreAccepted state me before (new.sent.items ++ new.waiting.items))
            (sym state_is) (subst (AreAccepted old.state me before) items_are ready.accepted);
      }

  -- the reads that waited were asked before now
  asked_now : (system : StoreSystem Q R) (shard : ℕ) → ArePast system → (item : Item Q)
      → IsAsked system.asked shard item → IsAskedBy system.asked shard (length system.log) item
  asked_now system shard past item was = (
    was.0,
    was.1,
    was.2,
    all_among (λ (ask : Ask Q). ask.since ≤ length system.log) system.asked was.0 past
        was.1.among,
  )

  requests_same : (asked : List (Ask Q)) (shard : ℕ) (old new : ShardState M Q R) → IsUnflushed old new
      → AreRequestsAskedOf asked shard old → AreRequestsAskedOf asked shard new
  requests_same asked shard old new same are = record {
    sent = subst (AllByRecursion (IsAsked asked shard)) (sym same.sent) are.sent;
    waiting = subst (AllByRecursion (IsAsked asked shard)) (sym same.waiting) are.waiting;
  }

  pub asked_flushed : (limits : ShardLimits) (size : Q → ℕ) (system : StoreSystem Q R) (since shard : ℕ)
      (old new : ShardState M Q R) → ArePast system → IsFlushed limits size old new
      → AreAskedOf system.asked since shard old → AreAskedOf system.asked (length system.log) shard new
  asked_flushed limits size system since shard old new past flush asked = record {
    asking = subst (AllByRecursion (IsAsked system.asked shard)) (sym flush.asking) tt;
    carried = subst (AllByRecursion (IsAskedBy system.asked shard (length system.log))) (sym flush.carried)
        (all_map (IsAsked system.asked shard) (IsAskedBy system.asked shard (length system.log))
        (asked_now system shard past) old.asking.items asked.asking);
  }

  -- the requests are the same, and some of those that waited were sent, if any
  pub requests_flushed : {E : Type 0} (limits : ShardLimits) (size : Q → ℕ) (asked : List (Ask Q)) (shard : ℕ)
      (old new : ShardState M Q R) (result : Result Bool E)
      → IfOk result (λ sends. IsTrue sends → IsFlushed limits size old new)
      → IfOk result (λ sends. sends ≡ false → IsUnflushed old new) → OnErr result (IsUnflushed old new)
      → AreRequestsAskedOf asked shard old → AreRequestsAskedOf asked shard new
  requests_flushed limits size asked shard old new (Ok true) sends waits err are =
      let all = AllByRecursion (IsAsked asked shard) in
      let count = batch_length limits size old in
      let waiting = old.waiting.items in
      let was : all (take count waiting ++ drop count waiting) =
      subst all (sym (take-append-drop count waiting)) are.waiting in
      let flush = sends refl in
      record {
        sent = subst all (sym flush.sent)
            (all-front (IsAsked asked shard) (take count waiting) (drop count waiting) was);
        waiting = subst all (sym flush.waiting)
            (all-back (IsAsked asked shard) (take count waiting) (drop count waiting) was);
      }
  requests_flushed limits size asked shard old new (Ok false) sends waits err are =
      requests_same asked shard old new (waits refl) are
  requests_flushed limits size asked shard old new (Err e) sends waits err are =
      requests_same asked shard old new err are

  asked_if : (asked : List (Ask Q)) (shard : ℕ) (waits : Bool) (items : List (Item Q)) (item : Item Q)
      → AllByRecursion (IsAsked asked shard) items → IsAsked asked shard item
      → AllByRecursion (IsAsked asked shard) (if waits then items ++ item ∷ [] else items)
  asked_if asked shard true items item all one = all-append (IsAsked asked shard) items (item ∷ []) all (one, tt)
  asked_if asked shard false items item all one = all

  asking_of : {E : Type 0} (asked : List (Ask Q)) (shard me : ℕ) (limits : ShardLimits) (old new : ShardState M Q R)
      (item : Item Q) (result : Result (Decision R) E)
      → OnOk result (new.asking.items ≡ asking_after limits old me item)
      → OnErr result (new.asking.items ≡ old.asking.items) → AllByRecursion (IsAsked asked shard) old.asking.items
      → IsAsked asked shard item → AllByRecursion (IsAsked asked shard) new.asking.items
  asking_of asked shard me limits old new item (Ok decision) ok err all one =
      subst (AllByRecursion (IsAsked asked shard)) (sym ok)
      (asked_if asked shard (accepts old.state me item.mode && not (nat_le limits.waiting (length old.asking.items)))
      old.asking.items item all one)
  asking_of asked shard me limits old new item (Err error) ok err all one =
      subst (AllByRecursion (IsAsked asked shard)) (sym err) all

  -- one more read, which was asked, waits
  pub asked_one : {E : Type 0} (asked : List (Ask Q)) (since shard me : ℕ) (limits : ShardLimits)
      (old new : ShardState M Q R) (item : Item Q) (result : Result (Decision R) E) → new.carried ≡ old.carried
      → OnOk result (new.asking.items ≡ asking_after limits old me item)
      → OnErr result (new.asking.items ≡ old.asking.items) → AreAskedOf asked since shard old
      → IsAsked asked shard item → AreAskedOf asked since shard new
  asked_one asked since shard me limits old new item result carried ok err all one = record {
    asking = asking_of asked shard me limits old new item result ok err all.asking one;
    carried = subst (λ (list : Vec (Item Q)). AllByRecursion (IsAskedBy asked shard since) list.items) (sym carried)
        all.carried;
  }

  waiting_of : {E : Type 0} (asked : List (Ask Q)) (shard me : ℕ) (limits : ShardLimits) (size : Q → ℕ)
      (old new : ShardState M Q R) (item : Item Q) (result : Result (Decision R) E)
      → OnOk result (new.waiting.items ≡ waiting_after limits size old me item)
      → OnErr result (new.waiting.items ≡ old.waiting.items) → AllByRecursion (IsAsked asked shard) old.waiting.items
      → IsAsked asked shard item → AllByRecursion (IsAsked asked shard) new.waiting.items
  waiting_of asked shard me limits size old new item (Ok decision) ok err all one =
      subst (AllByRecursion (IsAsked asked shard)) (sym ok)
      (asked_if asked shard (is_taken limits size old me item) old.waiting.items item all one)
  waiting_of asked shard me limits size old new item (Err error) ok err all one =
      subst (AllByRecursion (IsAsked asked shard)) (sym err) all

  -- one more request, which was asked, waits
  pub request_taken : {E : Type 0} (asked : List (Ask Q)) (shard me : ℕ) (limits : ShardLimits) (size : Q → ℕ)
      (old new : ShardState M Q R) (item : Item Q) (result : Result (Decision R) E) → new.sent ≡ old.sent
      → OnOk result (new.waiting.items ≡ waiting_after limits size old me item)
      → OnErr result (new.waiting.items ≡ old.waiting.items) → AreRequestsAskedOf asked shard old
      → IsAsked asked shard item → AreRequestsAskedOf asked shard new
  request_taken asked shard me limits size old new item result sent ok err all one = record {
    sent = subst (λ (list : Vec (Item Q)). AllByRecursion (IsAsked asked shard) list.items) (sym sent) all.sent;
    waiting = waiting_of asked shard me limits size old new item result ok err all.waiting one;
  }

  pub known_of : (log : StoreLog Q R) (me shard : ℕ) (found : Option (ShardState M Q R)) (ready : ShardState M Q R)
      → found ≡ Some ready → IfSome found (λ r. HasRead service log me shard r)
      → HasRead service log me shard ready
  known_of log me shard found ready is known =
      subst (λ (o : Option (ShardState M Q R)). IfSome o (λ r. HasRead service log me shard r)) is known

  may_for : (charter : Charter Q (Part R)) (log : StoreLog Q R) (shard me : ℕ) (base : Option NamedBase)
      (items : List (Item Q)) (head : Head) (stood logged : ℕ)
      → MayExecute charter log shard me items head stood logged
      → ((b : NamedBase) → base ≡ Some b → MayName charter log shard head b.number b.parts logged)
      → MaySend charter log (transaction_for shard me base items head stood logged)
  may_for charter log shard me None [] head stood logged may name =
      record { deed = Checking (both_compares shard stood logged); is = refl; may = tt }
  may_for charter log shard me (Some base) [] head stood logged may name =
      record { deed = Naming shard head base.number base.parts logged; is = refl; may = name base refl }
  may_for charter log shard me base (item ∷ items) head stood logged may name =
      record { deed = Executing shard me (item ∷ items) head stood logged; is = refl; may = may }

  -- the transaction that was sent may be sent
  pub sent_may : (charter : Charter Q (Part R)) (log : StoreLog Q R) (me shard : ℕ) (ready : ShardState M Q R)
      → charter.parts ≡ base_of service → shard < charter.count → me ≢ 0 → HasRead service log me shard ready
      → MaySend charter log (sent_transaction me shard ready)
  sent_may charter log me shard ready parts within named knows =
      may_for charter log shard me (named_by ready.work) ready.sent.items ready.head ready.stood ready.logged
      (may_send charter log me shard ready within named knows)
      (λ base is. name_may service charter log shard ready.logged ready.head ready.work base parts
      (head_found log shard (record { head = ready.head; items = knows.before }) ready.logged knows.logged)
      knows.base is)

  pub transactions_may : (charter : Charter Q (Part R)) (log : StoreLog Q R) (me shard : ℕ)
      (found : Option (ShardState M Q R)) → charter.parts ≡ base_of service
      → shard < charter.count → me ≢ 0 → IfSome found (λ r. HasRead service log me shard r)
      → AllByRecursion (MaySend charter log) (transactions_of me shard found)
  transactions_may charter log me shard None parts within named known = tt
  transactions_may charter log me shard (Some ready) parts within named known =
      (sent_may charter log me shard ready parts within named known, tt)

  pub parts_may : (charter : Charter Q (Part R)) (log : StoreLog Q R) (me shard : ℕ)
      (found : Option (ShardState M Q R)) → charter.parts ≡ base_of service
      → IfSome found (λ r. HasRead service log me shard r)
      → AllByRecursion (MaySend charter log) (bases_of shard found)
  parts_may charter log me shard None parts known = tt
  parts_may charter log me shard (Some ready) parts known =
      bases_may service charter log shard ready.head ready.work parts known.base

  -- all that was read is as it was but for the base
  but_work : (log : StoreLog Q R) (me shard : ℕ) (old new : ShardState M Q R) → IsButWork old new
      → IfSome new.work (IsWorkTrue service log shard new.head) → HasRead service log me shard old
      → HasRead service log me shard new
  but_work log me shard old new but base knows =
      knows_same log me shard old new but.state but.stood but.head but.logged
      (λ before is. record {
        replica = subst (IsReplica service before) (sym but.replica) is.replica;
        accepted = subst (λ (state : Record). AreAccepted state me before (new.sent.items ++ new.waiting.items))
            (sym but.state)
            (subst (λ (list : Vec (Item Q)). AreAccepted old.state me before (list.items ++ new.waiting.items))
            (sym but.sent)
            (subst (λ (list : Vec (Item Q)). AreAccepted old.state me before (old.sent.items ++ list.items))
            (sym but.waiting) is.accepted));
      })
      (λ _. base) knows

  begun_base : (log : StoreLog Q R) (me shard : ℕ) (old new : ShardState M Q R) → IsButWork old new
      → begins_base old ≡ true
      → ((items : List (Item Q)) → IsReplica service items old.replica
      → IfSome new.work (IsNewBase service old.head.batches items))
      → HasRead service log me shard old → IfSome new.work (IsWorkTrue service log shard new.head)
  begun_base log me shard old new but holds begun knows =
      let newer : old.head.base < old.head.batches = lt_of old.head.base old.head.batches
      (and_parts (is_none old.work) (nat_lt old.head.base old.head.batches) holds).1 in
      subst (λ (h : Head). IfSome new.work (IsWorkTrue service log shard h)) (sym but.head)
      (base_begun service log shard old.logged old.head knows.before new.work knows.logged newer
      (begun knows.before knows.is.replica))

  -- a server that begins a base
  pub begun_known : {E : Type 0} (log : StoreLog Q R) (me shard : ℕ) (old new : ShardState M Q R)
      (result : Result Bool E) → IsButWork old new
      → IfOk result (λ begun. begun ≡ begins_base old)
      → IfOk result (λ begun. IsTrue begun → (items : List (Item Q)) → IsReplica service items old.replica
      → IfSome new.work (IsNewBase service old.head.batches items))
      → IfOk result (λ begun. begun ≡ false → new.work ≡ old.work)
      → OnErr result (new.work ≡ old.work)
      → HasRead service log me shard old → HasRead service log me shard new
  begun_known log me shard old new (Ok true) but exact begun same err knows =
      but_work log me shard old new but
      (begun_base log me shard old new but (sym exact) (begun refl) knows) knows
  begun_known log me shard old new (Ok false) but exact begun same err knows =
      but_work log me shard old new but (same_base log shard old new but.head (same refl) knows.base) knows
  begun_known log me shard old new (Err e) but exact begun same err knows =
      but_work log me shard old new but (same_base log shard old new but.head err knows.base) knows

  -- a server the parts of whose base were written
  pub written_known : (log : StoreLog Q R) (me shard : ℕ) (old new : ShardState M Q R) → IsButWork old new
      → new.work ≡ written_now old.work → HasRead service log me shard old → AreWritten log shard old
      → HasRead service log me shard new
  written_known log me shard old new but work knows written =
      but_work log me shard old new but
      (subst (λ (h : Head). IfSome new.work (IsWorkTrue service log shard h)) (sym but.head)
      (subst (λ (o : Option (BaseWork R)). IfSome o (IsWorkTrue service log shard old.head)) (sym work)
      (base_written service log shard old.head old.work knows.base written))) knows

  pub clearing_may : (charter : Charter Q (Part R)) (log : StoreLog Q R) (me shard : ℕ) (ready : ShardState M Q R)
      (key : PassingKey) → HasRead service log me shard ready → is_behind shard ready.head key ≡ true
      → MayClear charter log key
  clearing_may charter log me shard ready key knows behind =
      clear_may charter log shard ready.logged ready.head key
      (head_found log shard (record { head = ready.head; items = knows.before }) ready.logged knows.logged) behind
