-- A server that has read the log has true knowledge.
use Rattle.std.proofs.Common.{◌≡◌, ℕ, ◌+◌, ◌<◌, List, [], ◌∷◌, ◌++◌, length, map, refl, sym, ap, subst, ◌∙◌}
use Rattle.std.proofs.Common.{append-nil, append_assoc, arith}
use Rattle.std.specs.Global.{Vec}
use Rattle.std.specs.Prelude.{Option, None, IfSome}
use Rattle.sm_store.specs.declared.head.Head.{Head}
use Rattle.sm_store.specs.declared.item.Item.{Item}
use Rattle.sm_store.specs.Clients.{Automaton, AreNext}
use Rattle.sm_store.specs.Store.{head_key, record_key, stored_record}
use Rattle.sm_store.specs.Deeds.{AreAccepted, AreRight, Charter, WasFound, shard_log}
use Rattle.sm_store.specs.Whole.{all_items}
use Rattle.sm_store.specs.lemmas.Numbers.{next_front}
use Rattle.sm_store.specs.lemmas.Seen.{read_on, read_whole}
use Rattle.sm_shard.specs.declared.base_work.BaseWork.{BaseWork}
use Rattle.sm_shard.specs.declared.shard_state.ShardState.{ShardState}
use Rattle.sm_shard.specs.Bases.{Part, base_of}
use Rattle.sm_shard.specs.Replicas.{IsReplica}
use Rattle.sm_shard.specs.ShardServers.{HasRead, IsWorkTrue, StoreLog}
use Rattle.sm_shard.specs.Steps.{IsLogRead, IsLogReadOn}

module _ {M Q R : Type 0} (service : Automaton M Q R) where
  pub read_so : (charter : Charter Q (Part R)) (log : StoreLog Q R) (me shard : ℕ) (ready : ShardState M Q R)
      (parts : List (Part R)) (batches : List (List (Item Q))) → charter.parts ≡ base_of service
      → AreRight charter log
      → WasFound (stored_record shard) (record_key shard) log ready.state ready.stood
      → IsLogRead log shard ready.head ready.logged parts batches
      → (0 < ready.head.base → length parts ≡ ready.head.parts)
      → ready.head.base + length batches ≡ ready.head.batches
      → ((first : List (Item Q)) → AreNext [] first → (ready.head.base ≡ 0 → first ≡ [])
      → (0 < ready.head.base → parts ≡ base_of service first)
      → IsReplica service (first ++ all_items batches) ready.replica)
      → ready.sent.items ≡ [] → ready.waiting.items ≡ [] → ready.work ≡ None
      → HasRead service log me shard ready
  read_so charter log me shard ready parts batches charter_is right stood read parts_long batches_long replica sent
      waiting work =
      let whole = read_whole charter shard log ready.head ready.logged parts batches right read.read parts_long
      read.base batches_long read.rest in
      let none : [] ≡ ready.sent.items ++ ready.waiting.items =
      sym (ap (λ (list : List (Item Q)). list ++ ready.waiting.items) sent ∙ waiting) in
      record {
        stood = stood;
        before = whole.first ++ all_items batches;
        logged = whole.found;
        is = record {
          replica = replica whole.first (next_front [] whole.first (all_items batches) whole.next) whole.unbased
              (λ some. sym (whole.based some)
              ∙ ap (λ (f : List (Item Q) → List (Part R)). f whole.first) charter_is);
          accepted = subst (AreAccepted ready.state me (whole.first ++ all_items batches)) none
              (record { accepted = tt; next = tt });
        };
        base = subst (λ (o : Option (BaseWork R)). IfSome o (IsWorkTrue service log shard ready.head)) (sym work) tt;
      }

  -- a server that has caught up with the log has true knowledge
  pub read_on_so : (charter : Charter Q (Part R)) (log : StoreLog Q R) (me shard : ℕ) (old new : ShardState M Q R)
      (batches : List (List (Item Q))) → AreRight charter log → HasRead service log me shard old
      → WasFound (stored_record shard) (record_key shard) log new.state new.stood
      → IsLogReadOn log shard old.head.batches new.head new.logged batches
      → old.head.batches + length batches ≡ new.head.batches
      → ((before : List (Item Q)) → IsReplica service before old.replica
      → IsReplica service (before ++ all_items batches) new.replica)
      → new.sent.items ≡ [] → new.waiting.items ≡ [] → new.work ≡ None
      → HasRead service log me shard new
  read_on_so charter log me shard old new batches right knows stood grown long replica sent waiting work =
      let none : [] ≡ new.sent.items ++ new.waiting.items =
      sym (ap (λ (list : List (Item Q)). list ++ new.waiting.items) sent ∙ waiting) in
      let all = knows.before ++ all_items batches in
      record {
        stood = stood;
        before = all;
        logged = read_on charter shard log old.head.batches knows.before new.head new.logged batches right
            (record { head = old.head; revision = old.logged; log_was = knows.logged; all = refl })
            grown.read long grown.rest;
        is = record {
          replica = replica knows.before knows.is.replica;
          accepted = subst (AreAccepted new.state me all) none (record { accepted = tt; next = tt });
        };
        base = subst (λ (o : Option (BaseWork R)). IfSome o (IsWorkTrue service log shard new.head)) (sym work) tt;
      }

  -- a server that takes back its sent requests, and uses another record, keeps its knowledge
  pub taken_back_so : (log : StoreLog Q R) (me shard : ℕ) (old new : ShardState M Q R)
      → HasRead service log me shard old → WasFound (stored_record shard) (record_key shard) log new.state new.stood
      → new.replica ≡ old.replica → new.head ≡ old.head → new.logged ≡ old.logged
      → new.sent.items ≡ [] → new.waiting.items ≡ []
      → (IfSome old.work (IsWorkTrue service log shard old.head)
      → IfSome new.work (IsWorkTrue service log shard new.head))
      → HasRead service log me shard new
  taken_back_so log me shard old new knows stood replica_is head_is logged_is sent waiting base =
      let none : [] ≡ new.sent.items ++ new.waiting.items =
      sym (ap (λ (list : List (Item Q)). list ++ new.waiting.items) sent ∙ waiting) in
      record {
        stood = stood;
        before = knows.before;
        logged = subst (λ (r : ℕ). WasFound (shard_log shard) (head_key shard) log
            (record { head = new.head; items = knows.before }) r) (sym logged_is)
            (subst (λ (h : Head). WasFound (shard_log shard) (head_key shard) log
            (record { head = h; items = knows.before }) old.logged) (sym head_is) knows.logged);
        is = record {
          replica = subst (IsReplica service knows.before) (sym replica_is) knows.is.replica;
          accepted = subst (AreAccepted new.state me knows.before) none (record { accepted = tt; next = tt });
        };
        base = base knows.base;
      }

module _ {Q : Type 0} where
  -- the requests of batches without their places in memory
  abbrev pub batch_items : List (Vec (Item Q)) → List (Item Q)
  batch_items batches = all_items (map (λ batch. batch.items) batches)

  -- as many
  pub batches_long : (batches : List (Vec (Item Q))) → length (map (λ batch. batch.items) batches) ≡ length batches
  batches_long [] = refl
  batches_long (batch ∷ batches) = let rest = batches_long batches in omega arith

  items_push : (front : List (Vec (Item Q))) (batch : Vec (Item Q))
      → batch_items (front ++ batch ∷ []) ≡ batch_items front ++ batch.items
  items_push [] batch = append-nil batch.items
  items_push (x ∷ front) batch =
      ap (λ (rest : List (Item Q)). x.items ++ rest) (items_push front batch)
      ∙ sym (append_assoc x.items (batch_items front) batch.items)

  -- one more batch
  pub batch_more : (before : List (Item Q)) (front : List (Vec (Item Q))) (batch : Vec (Item Q)) (items : List (Item Q))
      → items ≡ batch.items → (before ++ batch_items front) ++ items ≡ before ++ batch_items (front ++ batch ∷ [])
  batch_more before front batch items is =
      append_assoc before (batch_items front) items
      ∙ ap (λ (list : List (Item Q)). before ++ (batch_items front ++ list)) is
      ∙ ap (λ (list : List (Item Q)). before ++ list) (sym (items_push front batch))
