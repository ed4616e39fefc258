-- The growth of the store doesn't undo the values that were read, the transactions that may be sent, and the claims.
use Rattle.std.proofs.Common.{◌≡◌, ℕ, Bool, true, false, List, [], ◌∷◌, ◌++◌, refl, sym, ap, subst, ◌∙◌}
use Rattle.std.proofs.Common.{⊎_elim, inr, append_assoc, append-nil}
use Rattle.std.specs.Prelude.{◌==◌, if◌then◌else◌}
use Rattle.std.proofs.lemmas.Bool.{eqb-true, cases_Bool}
use Rattle.sm_store.specs.declared.item.Item.{Item}
use Rattle.sm_store.specs.declared.store_key.PassingKey.{PassingKey}
use Rattle.sm_store.specs.declared.store_key.PassingKey.TheVariants.{Leader, Server, Ack as AckKey, Batch, Part, Other}
use Rattle.sm_store.specs.declared.store_key.StoreKey.{StoreKey}
use Rattle.sm_store.specs.Clients.{Automaton, AreNext, reply_in}
use Rattle.sm_store.specs.Store.{Ack, Deletes, Transaction, head_key, made, made_by, touches}
use Rattle.sm_store.specs.Deeds.{AreRight, Charter, Deed, Electing, Expiring, Changing, Executing, Basing, Naming}
use Rattle.sm_store.specs.Deeds.{Clearing, Following, Restarting, Settling, Checking, Foreign, HasLed, HasRequests}
use Rattle.sm_store.specs.Deeds.{Resettling}
use Rattle.sm_store.specs.Deeds.{IsRight, MayAck, MayClear, MayDo, MaySend}
use Rattle.sm_store.specs.Deeds.{WasFound, transaction_of}
use Rattle.sm_store.specs.System.{Ask, Claim, Replies, Overtaken, Reads, IsSo, WasAsked}
use Rattle.sm_store.specs.lemmas.Acks.{have_let_go_grows, waited_grows}
use Rattle.sm_store.specs.lemmas.Logs.{all_map}
use Rattle.sm_store.specs.lemmas.Numbers.{next-append, over_grows, reply-append}

next_none : {Q : Type 0} (before : List (Item Q)) (b : Bool) (items : List (Item Q)) → items ≡ []
    → AreNext before (if b then items else [])
next_none before true items none = subst (AreNext before) (sym none) tt
next_none before false items none = tt

pub next_split : {Q : Type 0} (before xs ys : List (Item Q)) → AreNext before (xs ++ ys) → AreNext (before ++ xs) ys
next_split {Q = Q} before [] ys next = subst (λ (list : List (Item Q)). AreNext list ys) (sym (append-nil before)) next
next_split {Q = Q} before (item ∷ items) ys next =
    subst (λ (list : List (Item Q)). AreNext list ys) (append_assoc before (item ∷ []) items)
    (next_split (before ++ item ∷ []) items ys next.1)

module _ {Q P : Type 0} where
  -- a value that was read once was read, however the store goes on
  pub found_grows : {A : Type 0} (view : List (Transaction Q P) → A) (key : StoreKey)
      (more log : List (Transaction Q P))
      (value : A) (revision : ℕ) → WasFound view key log value revision → WasFound view key (more ++ log) value revision
  found_grows view key more log value revision found = record {
    later = more ++ found.later;
    past = found.past;
    is = ap (λ (rest : List (Transaction Q P)). more ++ rest) found.is ∙ sym (append_assoc more found.later found.past);
    at = found.at;
    was = found.was;
  }

  -- a shard's requests go on
  pub made_grows : (shard : ℕ) (more log : List (Transaction Q P))
      → (extra : List (Item Q)) × (made shard (more ++ log) ≡ made shard log ++ extra)
  made_grows shard [] log = ([], sym (append-nil (made shard log)))
  made_grows shard (txn ∷ more) log =
      let rest = made_grows shard more log in
      let added = made_by shard txn.writes in (
        rest.0 ++ added,
        ap (λ (items : List (Item Q)). items ++ added) rest.1 ∙ append_assoc (made shard log) rest.0 added,
      )

module _ {Q P : Type 0} (charter : Charter Q P) where
  requests_grow : (more log : List (Transaction Q P)) (shard number : ℕ) (items : List (Item Q))
      → HasRequests log shard number items → HasRequests (more ++ log) shard number items
  requests_grow more log shard number items has = record {
    head = has.head;
    revision = has.revision;
    log_was = found_grows _ _ more log _ _ has.log_was;
    all = has.all;
  }

  led_grows : (more log : List (Transaction Q P)) (process elected : ℕ) → HasLed log process elected
      → HasLed (more ++ log) process elected
  led_grows more log process elected led =
      record { was_elected = led.was_elected; leads = found_grows _ _ more log _ _ led.leads }

  clear_grows : (more log : List (Transaction Q P)) (key : PassingKey) → MayClear charter log key
      → MayClear charter (more ++ log) key
  clear_grows more log (Batch shard number) may = (may.0, may.1, found_grows _ _ more log _ _ may.2, may.3)
  clear_grows more log (Part shard number place) may = (may.0, may.1, found_grows _ _ more log _ _ may.2, may.3)
  clear_grows more log Leader may = may
  clear_grows more log (Server server) may = may
  clear_grows more log (AckKey at by) may = may
  clear_grows more log Other may = may

  ack_grows : (more log : List (Transaction Q P)) (server : ℕ) (ack : Ack) → MayAck log server ack
      → MayAck (more ++ log) server ack
  ack_grows more log server ack may = record {
    state = may.state;
    stood = may.stood;
    record_was = found_grows _ _ more log _ _ may.record_was;
    lets = may.lets;
  }

  may_grow : (more log : List (Transaction Q P)) (deed : Deed Q P) → MayDo charter log deed
      → MayDo charter (more ++ log) deed
  may_grow more log (Electing process) may = tt
  may_grow more log (Expiring keys) may = may
  may_grow more log (Changing process shard change next elected placed) may = record {
    within = may.within;
    led = led_grows more log process elected may.led;
    read = may.read;
    settings = may.settings;
    footing = found_grows _ _ more log _ _ may.footing;
    allowed = may.allowed;
    changed = may.changed;
    waited = λ waits. waited_grows more log may.read shard change (may.waited waits);
  }
  may_grow more log (Executing shard server items head stood logged) may = record {
    within = may.within;
    named = may.named;
    state = may.state;
    record_was = found_grows _ _ more log _ _ may.record_was;
    before = may.before;
    log_was = found_grows _ _ more log _ _ may.log_was;
    accepted = may.accepted;
  }
  may_grow more log (Basing shard number place part) may = record {
    items = may.items;
    requests = requests_grow more log shard number may.items may.requests;
    is = may.is;
  }
  may_grow more log (Naming shard head number parts logged) may = record {
    head_was = found_grows _ _ more log _ _ may.head_was;
    newer = may.newer;
    items = may.items;
    requests = requests_grow more log shard number may.items may.requests;
    all = may.all;
    there = λ place below. let one = may.there place below in (one.0, one.1, found_grows _ _ more log _ _ one.2);
  }
  may_grow more log (Clearing keys) may =
      all_map (MayClear charter log) (MayClear charter (more ++ log)) (clear_grows more log) keys may
  may_grow more log (Restarting process server run elected placed) may = record {
    led = led_grows more log process elected may.led;
    read = may.read;
    settings = may.settings;
    footing = found_grows _ _ more log _ _ may.footing;
    allowed = may.allowed;
    next = may.next;
    waited = λ waits stops. have_let_go_grows more log may.read charter.count server (may.waited waits stops);
  }
  may_grow more log (Settling settings) may = tt
  may_grow more log (Resettling process settings elected placed) may = record {
    led = led_grows more log process elected may.led;
    read = may.read;
    old = may.old;
    footing = found_grows _ _ more log _ _ may.footing;
    new = may.new;
    new_are = may.new_are;
    replaces = may.replaces;
  }
  may_grow more log (Following server revision acks told) may =
      all_map (MayAck log server) (MayAck (more ++ log) server) (ack_grows more log server) acks may
  may_grow more log (Checking compares) may = tt
  may_grow more log Foreign may = tt

  -- a transaction that may be sent once may be sent later
  pub send_grows : (more log : List (Transaction Q P)) (txn : Transaction Q P) → MaySend charter log txn
      → MaySend charter (more ++ log) txn
  send_grows more log txn may = record { deed = may.deed; is = may.is; may = may_grow more log may.deed may.may }

  added_next : (shard : ℕ) (log : List (Transaction Q P)) (deed : Deed Q P) → IsRight charter log deed
      → AreNext (made shard log) (made_by shard (transaction_of deed).writes)
  added_next shard log (Electing process) right = tt
  added_next shard log (Expiring keys) right =
      next_none (made shard log) (touches {Q = Q} {P = P} (head_key shard) (Deletes keys ∷ [])) [] refl
  added_next shard log (Changing process at change next elected placed) right = tt
  added_next shard log (Executing at server items head stood logged) right =
      ⊎_elim
      (λ (yes : (at == shard) ≡ true).
      let its : AreNext (made shard log) items =
      subst (λ (k : ℕ). AreNext (made k log) items) (eqb-true at shard yes) right.accepted.next in
      rw yes (subst (AreNext (made shard log)) (sym (append-nil items)) its))
      (λ (no : (at == shard) ≡ false). rw no tt)
      (cases_Bool (at == shard))
  added_next shard log (Basing at number place part) right = tt
  added_next shard log (Naming at head number parts logged) right =
      next_none (made shard log) (touches (head_key shard) (transaction_of {Q = Q} {P = P}
      (Naming at head number parts logged)).writes) [] refl
  added_next shard log (Clearing keys) right =
      next_none (made shard log) (touches {Q = Q} {P = P} (head_key shard) (Deletes keys ∷ [])) [] refl
  added_next shard log (Restarting process server run elected placed) right = tt
  added_next shard log (Settling settings) right = tt
  added_next shard log (Resettling process settings elected placed) right = tt
  added_next shard log (Following server revision acks told) right = tt
  added_next shard log (Checking compares) right = tt
  added_next shard log Foreign right = tt

  -- a shard's requests come next one after the other
  pub made_next : (shard : ℕ) (log : List (Transaction Q P)) → AreRight charter log → AreNext [] (made shard log)
  made_next shard [] right = tt
  made_next shard (txn ∷ earlier) right =
      next-append [] (made shard earlier) (made_by shard txn.writes) (made_next shard earlier right.1)
      (subst (λ (t : Transaction Q P). AreNext (made shard earlier) (made_by shard t.writes)) (sym right.0.is)
      (added_next shard earlier right.0.deed right.0.right))

-- a request that was asked was asked, whatever is asked later
pub asked_grows : {Q : Type 0} (new : Ask Q) (asked : List (Ask Q)) (shard client number : ℕ) (ask : Ask Q)
    → WasAsked asked shard client number ask → WasAsked (new ∷ asked) shard client number ask
asked_grows new asked shard client number ask was = record {
  among = inr was.among;
  shard_is = was.shard_is;
  client_is = was.client_is;
  number_is = was.number_is;
}

module _ {Q P R S : Type 0} (service : Automaton S Q R) where
  -- a claim that is true stays true as the store goes on
  pub so_grows : (asked : List (Ask Q)) (more log : List (Transaction Q P)) (claim : Claim Q R)
      → IsSo service asked log claim → IsSo service asked (more ++ log) claim
  so_grows asked more log (Replies shard client number request answer) so =
      let grown = made_grows shard more log in
      ap (λ (items : List (Item Q)). reply_in service service.start items client number) grown.1
      ∙ reply-append service service.start (made shard log) grown.0 client number answer so
  so_grows asked more log (Overtaken shard client number) so =
      let grown = made_grows shard more log in
      over_grows client number (made shard log) grown.0 (made shard (more ++ log)) grown.1 so
  so_grows asked more log (Reads shard client number request answer text) so = record {
    ask = so.ask;
    was_asked = so.was_asked;
    request_is = so.request_is;
    only_reads = so.only_reads;
    later = more ++ so.later;
    past = so.past;
    is = ap (λ (rest : List (Transaction Q P)). more ++ rest) so.is ∙ sym (append_assoc more so.later so.past);
    since = so.since;
    answer_is = so.answer_is;
    text_is = so.text_is;
  }

  -- a claim stays true as more is asked
  pub so_asked : (new : Ask Q) (asked : List (Ask Q)) (log : List (Transaction Q P)) (claim : Claim Q R)
      → IsSo service asked log claim → IsSo service (new ∷ asked) log claim
  so_asked new asked log (Replies shard client number request answer) so = so
  so_asked new asked log (Overtaken shard client number) so = so
  so_asked new asked log (Reads shard client number request answer text) so = record {
    ask = so.ask;
    was_asked = asked_grows new asked shard client number so.ask so.was_asked;
    request_is = so.request_is;
    only_reads = so.only_reads;
    later = so.later;
    past = so.past;
    is = so.is;
    since = so.since;
    answer_is = so.answer_is;
    text_is = so.text_is;
  }
