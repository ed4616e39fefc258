-- The replica of one more request.
use Rattle.std.proofs.Common.{◌≡◌, ℕ, ◌<◌, ◌≤◌, List, [], ◌∷◌, ◌++◌, sym, ap, subst, ◌∙◌, arith, append_assoc}
use Rattle.std.specs.Prelude.{Option, Some, None, max}
use Rattle.std.specs.BTreeMap.{BTreeMap, get, insert_entry}
use Rattle.std.specs.Ordering.{nat_cmp}
use Rattle.sm_store.specs.declared.item.Item.{Item}
use Rattle.sm_store.specs.Clients.{Automaton, floor_of, last_of, AreNext, ComesNext, state_after}
use Rattle.sm_store.specs.lemmas.Numbers.{floor-append, next-append}
use Rattle.sm_shard.specs.declared.replica.Replica.{Replica}
use Rattle.sm_shard.specs.declared.replica.LastRequest.{LastRequest}
use Rattle.sm_shard.specs.Bases.{Lasts, kept_from, noted}
use Rattle.sm_shard.specs.Replicas.{IsReplica, last_number}
use Rattle.sm_shard.proofs.Lasts.{IsLast, found, lasts-append, lasts_are}
use Rattle.sm_shard.proofs.Replies.{state-append}

module _ {M Q R : Type 0} (service : Automaton M Q R) where
  last_is : (items : List (Item Q)) (client : ℕ) (last : Option (LastRequest R))
      → IsLast service items client last → last_of client items ≡ last_number last
  last_is items client None is = is
  last_is items client (Some last) is = is.0

  -- the table's entry for a client is the client's last request
  pub table_is : (items : List (Item Q)) (replica : Replica M R) (client : ℕ) → IsReplica service items replica
      → floor_of items ≤ client → IsLast service items client (get nat_cmp replica.lasts client)
  table_is items replica client is below =
      subst (λ (lasts : Lasts R). IsLast service items client (found client lasts)) (sym is.lasts)
      (lasts_are service items is.next client below)

  pub last_number_is : (items : List (Item Q)) (replica : Replica M R) (client : ℕ) → IsReplica service items replica
      → floor_of items ≤ client → last_of client items ≡ last_number (get nat_cmp replica.lasts client)
  last_number_is items replica client is below =
      last_is items client (get nat_cmp replica.lasts client) (table_is items replica client is below)

  -- a replica with one more request
  pub replica_next : (before : List (Item Q)) (item : Item Q) (old : Replica M R) (machine : M)
      (lasts : BTreeMap ℕ (LastRequest R)) (floor : ℕ) (answer : R) → IsReplica service before old
      → old.floor ≤ item.client → last_number (get nat_cmp old.lasts item.client) < item.number
      → answer ≡ service.reply old.machine item.request
      → machine ≡ service.after old.machine item.request
      → lasts.entries
      ≡ kept_from item.forgets
      (insert_entry nat_cmp old.lasts.entries item.client (record { number = item.number; reply = answer }))
      → floor ≡ max old.floor item.forgets → IsReplica service (before ++ item ∷ [])
      (record { machine = machine; lasts = lasts; floor = floor }) × ComesNext before item
  replica_next before item old machine lasts floor answer replica within next answer_is machine_is put floor_is =
      let below : floor_of before ≤ item.client = subst (λ (k : ℕ). k ≤ item.client) replica.floor within in
      let last = last_number_is before old item.client replica below in
      let above : last_of item.client before < item.number = omega arith in
      let comes : ComesNext before item = record { known = below; above = above } in
      let was = replica.floor in
      let floors = floor-append before (item ∷ []) in
      let answer_was : answer ≡ service.reply (state_after service service.start before) item.request = answer_is
      ∙ ap (λ (state : M). service.reply state item.request) replica.machine in (
        record {
          machine = machine_is ∙ ap (λ (state : M). service.after state item.request) replica.machine
              ∙ sym (state-append service service.start before item);
          lasts = put
              ∙ ap (λ (r : R). noted item r old.lasts.entries) answer_was
              ∙ ap (noted item (service.reply (state_after service service.start before) item.request)) replica.lasts
              ∙ sym (lasts-append service service.start [] before item);
          floor = omega arith;
          next = next-append [] before (item ∷ []) replica.next (comes, tt);
        },
        comes,
      )

  -- a replica goes on by the requests so far, and then by one more
  pub replica_push : (front : List (Item Q)) (item : Item Q) (first last next : Replica M R)
      → ((before : List (Item Q)) → IsReplica service before first
      → IsReplica service (before ++ front) last × AreNext before front)
      → ((before : List (Item Q)) → IsReplica service before last
      → IsReplica service (before ++ item ∷ []) next × ComesNext before item)
      → (before : List (Item Q)) → IsReplica service before first
      → IsReplica service (before ++ (front ++ item ∷ [])) next × AreNext before (front ++ item ∷ [])
  replica_push front item first last next so_far more before replica =
      let earlier = so_far before replica in
      let now = more (before ++ front) earlier.0 in (
        subst (λ (list : List (Item Q)). IsReplica service list next)
            (append_assoc before front (item ∷ [])) now.0,
        next-append before front (item ∷ []) earlier.1 (now.1, tt),
      )
