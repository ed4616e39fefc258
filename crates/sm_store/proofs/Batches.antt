-- The requests that transactions make, as operations of all shards.
use Rattle.std.proofs.Common.{◌≡◌, ℕ, Bool, true, false, List, [], ◌∷◌, ◌++◌, refl, sym, ap, subst, ◌∙◌}
use Rattle.std.proofs.Common.{append_assoc, append-nil}
use Rattle.std.specs.Prelude.{◌==◌, if◌then◌else◌}
use Rattle.std.proofs.lemmas.Bool.{eqb-true}
use Rattle.sm_store.specs.declared.item.Item.{Item}
use Rattle.sm_store.specs.Clients.{Automaton, state_after}
use Rattle.sm_store.specs.Store.{Transaction, Write, Leads, Stands, Enters, Commands, Settles, Heads, Executes, Bases}
use Rattle.sm_store.specs.Store.{Follows, Acks, Deletes, Elsewhere, executed_by, head_key, made, made_by, touches}
use Rattle.sm_store.specs.Linear.{Operation, of_shard}
use Rattle.sm_store.proofs.Orders.{after_append, makes, makes_append, makes_other, makes_own, of_append}

module _ {Q : Type 0} where
  none_first : (b : Bool) (xs : List (Item Q)) → xs ≡ (if b then [] else []) ++ xs
  none_first true xs = refl
  none_first false xs = refl

  if_joined : (b : Bool) (xs ys : List (Item Q)) → (if b then xs ++ ys else [])
      ≡ (if b then xs else []) ++ (if b then ys else [])
  if_joined true xs ys = refl
  if_joined false xs ys = refl

module _ {Q P : Type 0} where
  -- the shard of a batch, and its requests; no requests for any other write
  abbrev batch_shard : Write Q P → ℕ
  batch_shard (Executes shard number server items) = shard
  batch_shard _ = 0

  abbrev batch_items : Write Q P → List (Item Q)
  batch_items (Executes shard number server items) = items
  batch_items _ = []

  executed_step : (shard : ℕ) (write : Write Q P) (writes : List (Write Q P)) → executed_by shard (write ∷ writes)
      ≡ (if batch_shard write == shard then batch_items write else []) ++ executed_by shard writes
  executed_step shard (Executes at number server items) writes = refl
  executed_step shard (Leads process) writes = none_first (0 == shard) (executed_by shard writes)
  executed_step shard (Stands process at change next) writes = none_first (0 == shard) (executed_by shard writes)
  executed_step shard (Enters process server run) writes = none_first (0 == shard) (executed_by shard writes)
  executed_step shard (Commands process) writes = none_first (0 == shard) (executed_by shard writes)
  executed_step shard (Settles settings) writes = none_first (0 == shard) (executed_by shard writes)
  executed_step shard (Heads at head) writes = none_first (0 == shard) (executed_by shard writes)
  executed_step shard (Bases at number place part) writes = none_first (0 == shard) (executed_by shard writes)
  executed_step shard (Follows server revision) writes = none_first (0 == shard) (executed_by shard writes)
  executed_step shard (Acks server acks) writes = none_first (0 == shard) (executed_by shard writes)
  executed_step shard (Deletes keys) writes = none_first (0 == shard) (executed_by shard writes)
  executed_step shard Elsewhere writes = none_first (0 == shard) (executed_by shard writes)

  -- the requests of a shard that are made when its head is written too
  abbrev headed_by : List (Write Q P) → ℕ → List (Item Q) → List (Item Q)
  headed_by all shard items = if touches (head_key shard) all then items else []

  headed_step : (b : Bool) (all : List (Write Q P)) (at shard : ℕ) (new items : List (Item Q)) → (at == shard) ≡ b
      → headed_by all shard ((if b then new else []) ++ items)
      ≡ (if b then headed_by all at new else []) ++ headed_by all shard items
  headed_step true all at shard new items is =
      subst (λ (k : ℕ). headed_by all shard (new ++ items) ≡ headed_by all k new ++ headed_by all shard items)
      (sym (eqb-true at shard is)) (if_joined (touches (head_key shard) all) new items)
  headed_step false all at shard new items is = refl

module _ {S Q R : Type 0} (service : Automaton S Q R) where
  -- operations that are each shard's requests, made one after another from these states
  pub record Making (states : ℕ → S) (items : ℕ → List (Item Q)) : Type 0 where
    pub order : List (Operation Q R)
    pub is : (shard : ℕ) → of_shard shard order ≡ makes service shard (states shard) (items shard)

  own : (shard : ℕ) (state : S) (new items : List (Item Q)) (order : List (Operation Q R))
      → of_shard shard order ≡ makes service shard (state_after service state new) items
      → of_shard shard (makes service shard state new) ++ of_shard shard order
      ≡ makes service shard state (new ++ items)
  own shard state new items order is =
      ap (λ (list : List (Operation Q R)). list ++ of_shard shard order) (makes_own service shard state new)
      ∙ ap (λ (list : List (Operation Q R)). makes service shard state new ++ list) is
      ∙ sym (makes_append service shard state new items)

  first_step : (b : Bool) (at shard : ℕ) (states : ℕ → S) (new items : List (Item Q)) (order : List (Operation Q R))
      → (at == shard) ≡ b
      → of_shard shard order
      ≡ makes service shard (if b then state_after service (states at) new else states shard) items
      → of_shard shard (makes service at (states at) new) ++ of_shard shard order
      ≡ makes service shard (states shard) ((if b then new else []) ++ items)
  first_step true at shard states new items order is rest =
      let same : at ≡ shard = eqb-true at shard is in
      subst (λ (k : ℕ). of_shard shard (makes service k (states k) new) ++ of_shard shard order
      ≡ makes service shard (states shard) (new ++ items)) (sym same)
      (own shard (states shard) new items order
      (subst (λ (k : ℕ). of_shard shard order ≡ makes service shard (state_after service (states k) new) items) same
      rest))
  first_step false at shard states new items order is rest =
      ap (λ (list : List (Operation Q R)). list ++ of_shard shard order)
      (makes_other service at shard (states at) new is)
      ∙ rest

  -- the requests of one shard come first
  first : (at : ℕ) (new : List (Item Q)) (states : ℕ → S) (items all : ℕ → List (Item Q))
      → ((shard : ℕ) → all shard ≡ (if at == shard then new else []) ++ items shard)
      → Making (λ shard. if at == shard then state_after service (states at) new else states shard) items
      → Making states all
  first at new states items all is rest = record {
    order = makes service at (states at) new ++ rest.order;
    is = λ shard. of_append shard (makes service at (states at) new) rest.order
        ∙ first_step (at == shard) at shard states new (items shard) rest.order refl (rest.is shard)
        ∙ ap (makes service shard (states shard)) (sym (is shard));
  }

  nothing : (shard : ℕ) (state : S) (b : Bool) → [] ≡ makes service shard state (if b then [] else [])
  nothing shard state true = refl
  nothing shard state false = refl

module _ {S Q P R : Type 0} (service : Automaton S Q R) where
  of_writes : (all : List (Write Q P)) (states : ℕ → S) (writes : List (Write Q P))
      → Making service states (λ shard. headed_by all shard (executed_by shard writes))
  of_writes all states [] = record {
    order = [];
    is = λ shard. nothing service shard (states shard) (touches (head_key shard) all);
  }
  of_writes all states (write ∷ writes) =
      let at = batch_shard write in
      let new = headed_by all at (batch_items write) in
      first service at new states (λ shard. headed_by all shard (executed_by shard writes))
      (λ shard. headed_by all shard (executed_by shard (write ∷ writes)))
      (λ shard. ap (headed_by all shard) (executed_step shard write writes)
      ∙ headed_step (at == shard) all at shard (batch_items write) (executed_by shard writes) refl)
      (of_writes all (λ shard. if at == shard then state_after service (states at) new else states shard) writes)

  -- a shard's state after all requests that are made of it
  abbrev pub state_in : List (Transaction Q P) → ℕ → S
  state_in log shard = state_after service service.start (made shard log)

  -- the operations that the later transactions make
  pub record Grown (new log : List (Transaction Q P)) : Type 0 where
    pub order : List (Operation Q R)
    pub items : ℕ → List (Item Q)
    pub grows : (shard : ℕ) → made shard (new ++ log) ≡ made shard log ++ items shard
    pub is : (shard : ℕ) → of_shard shard order ≡ makes service shard (state_in log shard) (items shard)

  pub grown : (new log : List (Transaction Q P)) → Grown new log
  grown [] log = record {
    order = [];
    items = λ shard. [];
    grows = λ shard. sym (append-nil (made shard log));
    is = λ shard. refl;
  }
  grown (txn ∷ new) log =
      let rest = grown new log in
      let one = of_writes txn.writes (state_in (new ++ log)) txn.writes in
      record {
        order = rest.order ++ one.order;
        items = λ shard. rest.items shard ++ made_by shard txn.writes;
        grows = λ shard. ap (λ (items : List (Item Q)). items ++ made_by shard txn.writes) (rest.grows shard)
            ∙ append_assoc (made shard log) (rest.items shard) (made_by shard txn.writes);
        is = λ shard.
            let by = made_by shard txn.writes in
            let now : state_in (new ++ log) shard
            ≡ state_after service (state_in log shard) (rest.items shard) =
            ap (state_after service service.start) (rest.grows shard)
            ∙ after_append service service.start (made shard log) (rest.items shard) in
            of_append shard rest.order one.order
            ∙ ap (λ (list : List (Operation Q R)). list ++ of_shard shard one.order) (rest.is shard)
            ∙ ap (λ (list : List (Operation Q R)). makes service shard (state_in log shard) (rest.items shard) ++ list)
            (one.is shard ∙ ap (λ (state : S). makes service shard state by) now)
            ∙ sym (makes_append service shard (state_in log shard) (rest.items shard) by);
      }
