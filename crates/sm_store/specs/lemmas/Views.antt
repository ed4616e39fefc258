-- Which key's writes change a value that is read from the store.
use Rattle.std.proofs.Common.{◌≡◌, ℕ, false, List, [], ◌∷◌, ◌++◌, refl, sym, subst, ap, ◌∙◌, append-nil, Some, None}
use Rattle.std.specs.Prelude.{◌==◌, ◌&&◌}
use Rattle.std.specs.List.{AllByRecursion}
use Rattle.std.proofs.lemmas.Bool.{true≢false, cond-false}
use Rattle.sm_store.specs.declared.head.Head.{Head}
use Rattle.sm_store.specs.declared.item.Item.{Item}
use Rattle.sm_store.specs.declared.store_key.PassingKey.TheVariants.{Leader, Batch, Part}
use Rattle.sm_store.specs.declared.store_key.StoreKey.{StoreKey}
use Rattle.sm_store.specs.Store.{Write, Leads, Stands, Heads, Executes, Bases, Enters, Commands, Settles, Follows, Acks}
use Rattle.sm_store.specs.Store.{Deletes, Elsewhere, leader_key}
use Rattle.sm_store.specs.Store.{record_key, head_key, batch_key, part_key, deletes_key, is_write_of}
use Rattle.sm_store.specs.Store.{left_by, view_from, touches, led, leader_of, stood, stored_record, headed, head_of}
use Rattle.sm_store.specs.Store.{batched, batch_at, based_on, part_at, executed_by, made}
use Rattle.sm_store.specs.Store.{placement_key, placement_of, settings_key, stored_settings, settled}
use Rattle.sm_store.specs.Store.{IsRising, Transaction}
use Rattle.sm_store.specs.Deeds.{AreRight, Charter, Deed, Electing, Expiring, Changing, Restarting, Settling, Executing}
use Rattle.sm_store.specs.Deeds.{Resettling}
use Rattle.sm_store.specs.Deeds.{Basing, Naming, Clearing, Following, Checking, Foreign, done_at, shard_log}
use Rattle.sm_store.specs.Deeds.{transaction_of}
use Rattle.sm_store.specs.lemmas.Heart.{IsViewAmong, IsViewOf, apart_writes}

module _ {Q P : Type 0} where
  -- a write of another key doesn't change the value
  abbrev IsLocal : {A : Type 0} → (A → Write Q P → A) → StoreKey → Type 0
  IsLocal {A} one key =
      (before : A) (write : Write Q P) → is_write_of key write ≡ false → one before write
      ≡ before

  left_alone : {A : Type 0} (one : A → Write Q P → A) (key : StoreKey) → IsLocal one key
      → (before : A) (writes : List (Write Q P)) → touches key writes ≡ false → left_by one before writes ≡ before
  left_alone one key local before [] apart = refl
  left_alone one key local before (write ∷ writes) apart =
      let parts = apart_writes key write writes apart in
      left_alone one key local (one before write) writes parts.1 ∙ local before write parts.0

  pub local_view : {A : Type 0} (one : A → Write Q P → A) (start : A) (key : StoreKey) → IsLocal one key
      → IsViewOf (view_from one start) key
  local_view one start key local txn earlier apart = left_alone one key local
      (view_from one start earlier) txn.writes apart

  led_local : IsLocal led leader_key
  led_local before (Leads process) apart = absurd (true≢false apart)
  led_local before (Stands process shard change next) apart = refl
  led_local before (Heads shard head) apart = refl
  led_local before (Executes shard number server items) apart = refl
  led_local before (Bases shard number place part) apart = refl
  led_local before (Enters process name run) apart = refl
  led_local before (Commands process) apart = refl
  led_local before (Settles settings) apart = refl
  led_local before (Follows server revision) apart = refl
  led_local before (Acks server acks) apart = refl
  led_local before (Deletes keys) apart = cond-false (deletes_key keys Leader) 0 before apart
  led_local before Elsewhere apart = refl

  stood_local : (shard : ℕ) → IsLocal (stood shard) (record_key shard)
  stood_local shard before (Leads process) apart = refl
  stood_local shard before (Stands process at change next) apart = cond-false (at == shard) next before apart
  stood_local shard before (Heads at head) apart = refl
  stood_local shard before (Executes at number server items) apart = refl
  stood_local shard before (Bases at number place part) apart = refl
  stood_local shard before (Enters process name run) apart = refl
  stood_local shard before (Commands process) apart = refl
  stood_local shard before (Settles settings) apart = refl
  stood_local shard before (Follows server revision) apart = refl
  stood_local shard before (Acks server acks) apart = refl
  stood_local shard before (Deletes keys) apart = refl
  stood_local shard before Elsewhere apart = refl

  headed_local : (shard : ℕ) → IsLocal (headed shard) (head_key shard)
  headed_local shard before (Leads process) apart = refl
  headed_local shard before (Stands process at change next) apart = refl
  headed_local shard before (Heads at head) apart = cond-false (at == shard) head before apart
  headed_local shard before (Executes at number server items) apart = refl
  headed_local shard before (Bases at number place part) apart = refl
  headed_local shard before (Enters process name run) apart = refl
  headed_local shard before (Commands process) apart = refl
  headed_local shard before (Settles settings) apart = refl
  headed_local shard before (Follows server revision) apart = refl
  headed_local shard before (Acks server acks) apart = refl
  headed_local shard before (Deletes keys) apart = refl
  headed_local shard before Elsewhere apart = refl

  batched_local : (shard number : ℕ) → IsLocal (batched shard number) (batch_key shard number)
  batched_local shard number before (Leads process) apart = refl
  batched_local shard number before (Stands process at change next) apart = refl
  batched_local shard number before (Heads at head) apart = refl
  batched_local shard number before (Executes at n server items) apart =
      cond-false (at == shard && n == number) (Some items) before apart
  batched_local shard number before (Bases at n place part) apart = refl
  batched_local shard number before (Enters process name run) apart = refl
  batched_local shard number before (Commands process) apart = refl
  batched_local shard number before (Settles settings) apart = refl
  batched_local shard number before (Follows server revision) apart = refl
  batched_local shard number before (Acks server acks) apart = refl
  batched_local shard number before (Deletes keys) apart = cond-false
      (deletes_key keys (Batch shard number)) None before apart
  batched_local shard number before Elsewhere apart = refl

  based_local : (shard number place : ℕ) → IsLocal (based_on shard number place) (part_key shard number place)
  based_local shard number place before (Leads process) apart = refl
  based_local shard number place before (Stands process at change next) apart = refl
  based_local shard number place before (Heads at head) apart = refl
  based_local shard number place before (Executes at n server items) apart = refl
  based_local shard number place before (Bases at n i part) apart =
      cond-false (at == shard && (n == number && i == place)) (Some part) before apart
  based_local shard number place before (Enters process name run) apart = refl
  based_local shard number place before (Commands process) apart = refl
  based_local shard number place before (Settles settings) apart = refl
  based_local shard number place before (Follows server revision) apart = refl
  based_local shard number place before (Acks server acks) apart = refl
  based_local shard number place before (Deletes keys) apart =
      cond-false (deletes_key keys (Part shard number place)) None before apart
  based_local shard number place before Elsewhere apart = refl

  pub leader_view : IsViewOf (leader_of {Q = Q} {P = P}) leader_key
  leader_view = local_view led 0 leader_key led_local

  pub record_view : (shard : ℕ) → IsViewOf (stored_record {Q = Q} {P = P} shard) (record_key shard)
  record_view shard = local_view (stood shard) _ (record_key shard) (stood_local shard)

  pub head_view : (shard : ℕ) → IsViewOf (head_of {Q = Q} {P = P} shard) (head_key shard)
  head_view shard = local_view (headed shard) _ (head_key shard) (headed_local shard)

  pub batch_view : (shard number : ℕ) → IsViewOf (batch_at {Q = Q} {P = P} shard number) (batch_key shard number)
  batch_view shard number = local_view (batched shard number) None (batch_key shard number) (batched_local shard number)

  pub part_view : (shard number place : ℕ)
      → IsViewOf (part_at {Q = Q} {P = P} shard number place) (part_key shard number place)
  part_view shard number place =
      local_view (based_on shard number place) None (part_key shard number place) (based_local shard number place)

  pub made_view : (shard : ℕ) → IsViewOf (made {Q = Q} {P = P} shard) (head_key shard)
  made_view shard txn earlier apart =
      ap (λ (items : List (Item Q)). made shard earlier ++ items)
      (cond-false (touches (head_key shard) txn.writes) (executed_by shard txn.writes) [] apart)
      ∙ append-nil (made shard earlier)

  pub log_view : (shard : ℕ) → IsViewOf (shard_log {Q = Q} {P = P} shard) (head_key shard)
  log_view shard txn earlier apart =
      ap (λ (head : Head). record { head = head; items = made shard (txn ∷ earlier) })
      (head_view shard txn earlier apart)
      ∙ ap (λ (items : List (Item Q)). record { head = head_of shard earlier; items = items })
      (made_view shard txn earlier apart)

  settled_local : IsLocal settled settings_key
  settled_local before (Leads process) apart = refl
  settled_local before (Stands process at change next) apart = refl
  settled_local before (Enters process name run) apart = refl
  settled_local before (Commands process) apart = refl
  settled_local before (Settles settings) apart = absurd (true≢false apart)
  settled_local before (Heads at head) apart = refl
  settled_local before (Executes at number server items) apart = refl
  settled_local before (Bases at number place part) apart = refl
  settled_local before (Follows server revision) apart = refl
  settled_local before (Acks server acks) apart = refl
  settled_local before (Deletes keys) apart = refl
  settled_local before Elsewhere apart = refl

  pub settings_view : IsViewOf (stored_settings {Q = Q} {P = P}) settings_key
  settings_view = local_view settled None settings_key settled_local

  -- the transaction belongs to a deed
  abbrev pub IsOfDeed : Transaction Q P → Type 0
  IsOfDeed txn = (deed : Deed Q P) × (txn ≡ done_at txn.revision deed)

  pub deeds_of_right : (charter : Charter Q P) (log : List (Transaction Q P)) → AreRight charter log
      → AllByRecursion IsOfDeed log
  deeds_of_right charter [] right = tt
  deeds_of_right charter (txn ∷ earlier) right = (
    (right.0.deed, right.0.is),
    deeds_of_right charter earlier right.1,
  )

  -- revisions rise along a log whose transactions were right
  pub rising_of_right : (charter : Charter Q P) (log : List (Transaction Q P)) → AreRight charter log → IsRising log
  rising_of_right charter [] right = tt
  rising_of_right charter (txn ∷ earlier) right = (right.0.above, rising_of_right charter earlier right.1)

  placed_apart : (deed : Deed Q P) (earlier : List (Transaction Q P))
      → touches placement_key (transaction_of deed).writes ≡ false
      → placement_of (transaction_of deed ∷ earlier) ≡ placement_of earlier
  placed_apart (Electing process) earlier apart = refl
  placed_apart (Expiring keys) earlier apart = refl
  placed_apart (Changing process shard change next elected placed) earlier apart = absurd (true≢false apart)
  placed_apart (Restarting process server run elected placed) earlier apart = absurd (true≢false apart)
  placed_apart (Settling settings) earlier apart = refl
  placed_apart (Resettling process settings elected placed) earlier apart = absurd (true≢false apart)
  placed_apart (Executing shard server items head stood logged) earlier apart = refl
  placed_apart (Basing shard number place part) earlier apart = refl
  placed_apart (Naming shard head number parts logged) earlier apart = refl
  placed_apart (Clearing keys) earlier apart = refl
  placed_apart (Following server revision acks told) earlier apart = refl
  placed_apart (Checking compares) earlier apart = refl
  placed_apart Foreign earlier apart = refl

  -- a deed that doesn't write the placement's key changes no record and no state
  pub placement_view : IsViewAmong IsOfDeed placement_of placement_key
  placement_view txn earlier of apart =
      subst (λ (t : Transaction Q P). placement_of (t ∷ earlier) ≡ placement_of earlier) (sym of.1)
      (placed_apart of.0 earlier
      (subst (λ (t : Transaction Q P). touches placement_key t.writes ≡ false) of.1 apart))
