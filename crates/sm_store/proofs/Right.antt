-- Each transaction of an honest store was right when it was made.
use Rattle.std.proofs.Common.{◌≡◌, ℕ, ◌≤◌, true, List, [], ◌∷◌, ◌++◌, Some, length, refl, sym, ap, subst, ◌∙◌, arith}
use Rattle.std.proofs.Common.{append-nil, inl, inr}
use Rattle.std.specs.Prelude.{IsTrue, None, slice_get}
use Rattle.sm_ownership.specs.declared.record.Record.{Record}
use Rattle.sm_place.specs.declared.server_state.ServerState.{ServerState}
use Rattle.sm_place.specs.declared.server_state.ServerState.TheVariants.{Failed}
use Rattle.sm_store.specs.declared.head.Head.{Head}
use Rattle.sm_store.specs.declared.item.Item.{Item}
use Rattle.sm_store.specs.declared.store_key.PassingKey.{PassingKey}
use Rattle.sm_store.specs.declared.store_key.PassingKey.TheVariants.{Leader, Server, Ack as AckKey, Batch, Part, Other}
use Rattle.sm_store.specs.Store.{Ack, Transaction, all_hold, head_key, head_of, leader_key, leader_of, made, part_at}
use Rattle.sm_store.specs.Store.{Placement, placement_key, placement_of, record_key, revision_of, settings_key}
use Rattle.sm_store.specs.Store.{IsRising, made_at, server_key, stored_settings, stored_record}
use Rattle.sm_store.specs.Settings.{Footing, MayReplace}
use Rattle.sm_store.specs.Deeds.{Charter, Deed, Electing, Expiring, Changing, Executing, Basing, Naming, Clearing}
use Rattle.sm_store.specs.Deeds.{Following, Restarting, Settling, Checking, Foreign, transaction_of, at, AreAccepted}
use Rattle.sm_store.specs.Deeds.{Resettling}
use Rattle.sm_store.specs.Deeds.{absence_compares, done_at}
use Rattle.sm_store.specs.Deeds.{IsChanged, MayAck, ShardLog, is_next_run, read_run}
use Rattle.sm_store.specs.Deeds.{shard_log, WasFound, MayDo, MayName, MayClear, IsHonest, IsBehind, IsRight}
use Rattle.sm_store.specs.Deeds.{HasLed, IsRightBase, AreRight}
use Rattle.sm_store.specs.Waits.{HasWaited, HaveLetGo, MayLetGo}
use Rattle.sm_store.specs.lemmas.Heads.{read_until, risen}
use Rattle.sm_store.specs.lemmas.Footing.{footing_stands}
use Rattle.sm_store.specs.lemmas.Heart.{first_held, stands, unwritten}
use Rattle.sm_store.specs.lemmas.Logs.{all_map}
use Rattle.sm_store.specs.lemmas.Parts.{part_is, part_stays}
use Rattle.sm_store.specs.lemmas.Records.{IsSince, record_since}
use Rattle.sm_store.specs.lemmas.Views.{head_view, leader_view, log_view}
use Rattle.sm_store.specs.lemmas.Views.{record_view, rising_of_right, settings_view}

module _ {Q P : Type 0} (charter : Charter Q P) where
  head_behind : (log : List (Transaction Q P)) (shard : ℕ) (head : Head) (revision : ℕ) → AreRight charter log
      → WasFound (head_of shard) (head_key shard) log head revision → head.base ≤ (head_of shard log).base
  head_behind log shard head revision right found =
      let all : AreRight charter (found.later ++ found.past) = subst (AreRight charter) found.is right in
      let more = risen charter shard found.later found.past all in
      subst (λ (h : Head). h.base ≤ (head_of shard log).base) found.was
      (subst (λ (l : List (Transaction Q P)). (head_of shard found.past).base ≤ (head_of shard l).base)
      (sym found.is) more.base)

  base_right : (log : List (Transaction Q P)) (shard : ℕ) (head : Head) (number parts logged : ℕ) → AreRight charter log
      → head_of shard log ≡ head → MayName charter log shard head number parts logged
      → IsRightBase charter log shard head number parts
  base_right log shard head number parts logged right is may =
      let read = read_until charter shard number may.items log right may.requests in
      let newer = may.newer in
      record {
        head_is = is;
        newer = may.newer;
        within = subst (λ (h : Head). number ≤ h.batches) is read.0;
        all = may.all ∙ ap (λ (items : List (Item Q)). length (charter.parts items)) (sym read.1);
        there = λ place below.
            let one = may.there place below in
            let found = one.2 in
            let all : AreRight charter (found.later ++ found.past) = subst (AreRight charter) found.is right in
            let newest : (head_of shard log).base ≤ number = subst (λ (h : Head). h.base ≤ number) (sym is)
            (omega arith) in
            let now = part_stays charter shard number place found.later found.past all
            (subst (λ (l : List (Transaction Q P)). (head_of shard l).base ≤ number) found.is newest)
            (one.0, found.was) in
            let there : part_at shard number place log ≡ Some now.0 = ap (part_at shard number place) found.is
            ∙ now.1 in
            there ∙ sym (part_is charter shard number place log now.0 right there).is;
      }

  clear_right : (log : List (Transaction Q P)) (key : PassingKey) → AreRight charter log → MayClear charter log key
      → IsBehind charter log key
  clear_right log (Batch shard number) right may =
      let behind = head_behind log shard may.0 may.1 right may.2 in let below = may.3 in omega arith
  clear_right log (Part shard number place) right may =
      let behind = head_behind log shard may.0 may.1 right may.2 in let below = may.3 in omega arith
  clear_right log Leader right may = may
  clear_right log (Server server) right may = may
  clear_right log (AckKey at by) right may = may
  clear_right log Other right may = may

  leads_still : (log : List (Transaction Q P)) (process elected : ℕ) → IsRising log → HasLed log process elected
      → revision_of leader_key log ≡ elected → leader_of log ≡ process
  leads_still log process elected rising led now =
      stands leader_of leader_key leader_view log process elected rising (inr led.was_elected) led.leads now

  never_settled : (log : List (Transaction Q P)) → IsRising log → revision_of settings_key log ≡ 0
      → stored_settings log ≡ None
  never_settled log rising now =
      ap stored_settings (sym (append-nil log))
      ∙ unwritten stored_settings settings_key settings_view log [] (subst IsRising (sym (append-nil log)) rising)
      (inl refl)
      (ap (revision_of settings_key) (append-nil log) ∙ now)

  absent_then : (log : List (Transaction Q P)) (server : ℕ)
      → all_hold log (absence_compares server Failed) ≡ true → revision_of (server_key server) log ≡ 0
  absent_then log server held = (first_held log (server_key server) 0 [] held).0

  -- a server that may let go by a record may still do so later by the same record, or by one that replaced it
  lets_since : (server generation : ℕ) (was held : Record) → IsSince was held → MayLetGo server generation was
      → MayLetGo server generation held
  lets_since server generation was held (inl same) may = subst (MayLetGo server generation) (sym same) may
  lets_since server generation was held (inr later) (inl below) = inl (omega arith)
  lets_since server generation was held (inr later) (inr same) = let is = same.0 in inl (omega arith)

  lets_still : (log : List (Transaction Q P)) (server : ℕ) (ack : Ack) → AreRight charter log → MayAck log server ack
      → MayLetGo server ack.generation (stored_record ack.shard log)
  lets_still log server ack right may =
      let found = may.record_was in
      let all : AreRight charter (found.later ++ found.past) = subst (AreRight charter) found.is right in
      let since : IsSince (stored_record ack.shard found.past) (stored_record ack.shard (found.later ++ found.past)) =
      record_since charter ack.shard found.later found.past all in
      lets_since server ack.generation may.state (stored_record ack.shard log)
      (subst (λ (l : List (Transaction Q P)). IsSince may.state (stored_record ack.shard l)) (sym found.is)
      (subst (λ (r : Record). IsSince r (stored_record ack.shard (found.later ++ found.past))) found.was since))
      may.lets

  right_one : (log : List (Transaction Q P)) (deed : Deed Q P) → AreRight charter log
      → all_hold log (transaction_of deed).compares ≡ true → MayDo charter log deed → IsRight charter log deed
  right_one log (Electing process) right held may = tt
  right_one log (Expiring keys) right held may = may
  right_one log (Changing process shard change next elected placed) right held may =
      let first = first_held log leader_key elected (at placement_key placed ∷ []) held in
      let second = first_held log placement_key placed [] first.1 in
      let footing = footing_stands charter log may.read may.settings placed right may.footing second.0 in
      let now : placement_of log ≡ may.read = ap (λ (f : Footing). f.placement) footing in
      record {
        within = may.within;
        leads = leads_still log process elected (rising_of_right charter log right) may.led first.0;
        settings = may.settings;
        settings_are = ap (λ (f : Footing). f.settings) footing;
        allowed = subst (λ (p : Placement). IsTrue (charter.allows_change may.settings p shard change)) (sym now)
            may.allowed;
        changed = subst (λ (p : Placement). IsChanged charter.ceiling (p.records shard) change next) (sym now)
            may.changed;
        waited = λ waits. subst (λ (p : Placement). HasWaited log p shard change) (sym now) (may.waited waits);
      }
  right_one log (Executing shard server items head stood logged) right held may =
      let first = first_held log (record_key shard) stood (at (head_key shard) logged ∷ []) held in
      let second = first_held log (head_key shard) logged [] first.1 in
      let rising = rising_of_right charter log right in
      let now : stored_record shard log ≡ may.state =
      stands (stored_record shard) (record_key shard) (record_view shard) log may.state stood
      rising (inl refl) may.record_was first.0 in
      let whole : shard_log shard log ≡ record { head = head; items = may.before } =
      stands (shard_log shard) (head_key shard) (log_view shard) log
      (record { head = head; items = may.before }) logged rising (inl refl) may.log_was second.0 in
      let items_are : made shard log ≡ may.before = ap (λ (l : ShardLog Q). l.items) whole in
      record {
        within = may.within;
        named = may.named;
        accepted = subst (λ (state : Record). AreAccepted state server (made shard log) items) (sym now)
            (subst (λ (before : List (Item Q)). AreAccepted may.state server before items)
            (sym items_are) may.accepted);
        head_is = ap (λ (l : ShardLog Q). l.head) whole;
      }
  right_one log (Basing shard number place part) right held may =
      let read = read_until charter shard number may.items log right may.requests in
      record {
        within = read.0;
        is = ap (λ (items : List (Item Q)). slice_get (charter.parts items) place) read.1 ∙ may.is;
      }
  right_one log (Naming shard head number parts logged) right held may =
      let first = first_held log (head_key shard) logged [] held in
      base_right log shard head number parts logged right
      (stands (head_of shard) (head_key shard) (head_view shard) log head logged (rising_of_right charter log right)
      (inl refl) may.head_was first.0) may
  right_one log (Clearing keys) right held may =
      all_map (MayClear charter log) (IsBehind charter log) (λ key one. clear_right log key right one) keys may
  right_one log (Restarting process server run elected placed) right held may =
      let absences = absence_compares server run.state in
      let first = first_held log leader_key elected (at placement_key placed ∷ absences) held in
      let second = first_held log placement_key placed absences first.1 in
      let footing = footing_stands charter log may.read may.settings placed right may.footing second.0 in
      let now : placement_of log ≡ may.read = ap (λ (f : Footing). f.placement) footing in
      record {
        leads = leads_still log process elected (rising_of_right charter log right) may.led first.0;
        settings = may.settings;
        settings_are = ap (λ (f : Footing). f.settings) footing;
        allowed = subst (λ (p : Placement). IsTrue (charter.allows_state may.settings p server run.state)) (sym now)
            may.allowed;
        next = subst (λ (p : Placement). IsTrue (is_next_run (read_run p server) run)) (sym now) may.next;
        absent = λ is. absent_then log server (subst (λ (s : ServerState).
            all_hold log (absence_compares server s) ≡ true) is second.1);
        waited = λ waits stops. subst (λ (p : Placement). HaveLetGo log p charter.count server) (sym now)
            (may.waited waits stops);
      }
  right_one log (Settling settings) right held may =
      never_settled log (rising_of_right charter log right) (first_held log settings_key 0 [] held).0
  right_one log (Resettling process settings elected placed) right held may =
      let first = first_held log leader_key elected (at placement_key placed ∷ []) held in
      let second = first_held log placement_key placed [] first.1 in
      let now = footing_stands charter log may.read may.old placed right may.footing second.0 in
      record {
        leads = leads_still log process elected (rising_of_right charter log right) may.led first.0;
        old = may.old;
        old_are = ap (λ (f : Footing). f.settings) now;
        new = may.new;
        new_are = may.new_are;
        replaces = subst (λ (p : Placement). MayReplace p may.old may.new)
            (sym (ap (λ (f : Footing). f.placement) now)) may.replaces;
      }
  right_one log (Following server revision acks told) right held may =
      record {
        compared = (first_held log (server_key server) told [] held).0;
        lets = all_map (MayAck log server) (λ (ack : Ack). MayLetGo server ack.generation (stored_record ack.shard log))
            (λ ack one. lets_still log server ack right one) acks may;
      }
  right_one log (Checking compares) right held may = tt
  right_one log Foreign right held may = tt

  pub honest_is_right : (log : List (Transaction Q P)) → IsHonest charter log → AreRight charter log
  honest_is_right [] honest = tt
  honest_is_right (txn ∷ earlier) honest =
      let right = honest_is_right earlier honest.1 in
      let one = honest.0 in
      let deed = one.may.deed in
      let is : txn ≡ done_at txn.revision deed = one.is ∙ ap (made_at txn.revision) one.may.is in
      let held : all_hold earlier (transaction_of deed).compares ≡ true =
      subst (λ (t : Transaction Q P). all_hold earlier t.compares ≡ true) is one.held in (
        record { above = one.above; deed = deed; is = is; right = right_one earlier deed right held one.may.may },
        right,
      )
