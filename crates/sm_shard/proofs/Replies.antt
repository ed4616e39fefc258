-- The state and the replies after one more request.
use Rattle.std.proofs.Common.{◌≡◌, ◌+◌, true, false, List, [], ◌∷◌, ◌++◌, refl, sym, ap, ◌∙◌, arith, ⊎_elim}
use Rattle.std.specs.Prelude.{Some}
use Rattle.std.proofs.lemmas.Bool.{eq-eqb, cases_Bool}
use Rattle.sm_store.specs.declared.item.Item.{Item}
use Rattle.sm_store.specs.Clients.{Automaton, is_from, state_after, times, reply_in}
use Rattle.sm_shard.specs.declared.replica.MadeReply.{MadeReply}
use Rattle.sm_shard.specs.Replicas.{replies_of}

module _ {Q : Type 0} where
  own : (item : Item Q) → is_from item.client item.number item ≡ true
  own item = rw (eq-eqb item.client item.client refl) (eq-eqb item.number item.number refl)

module _ {M Q R : Type 0} (service : Automaton M Q R) where
  pub state-append : (state : M) (items : List (Item Q)) (item : Item Q)
      → state_after service state (items ++ item ∷ [])
      ≡ service.after (state_after service state items) item.request
  state-append state [] item = refl
  state-append state (x ∷ items) item = state-append (service.after state x.request) items item

  pub answers-append : (state : M) (items : List (Item Q)) (item : Item Q)
      → replies_of service state (items ++ item ∷ []) ≡ replies_of service state items
      ++ record {
        client = item.client;
        number = item.number;
        reply =
            service.reply (state_after service state items) item.request;
      } ∷ []
  answers-append state [] item = refl
  answers-append state (x ∷ items) item = ap (λ (rest : List (MadeReply R)). record {
    client = x.client;
    number =
        x.number;
    reply = service.reply state x.request;
  } ∷ rest) (answers-append (service.after state x.request) items item)

  pub answers_push : (state machine : M) (front : List (Item Q)) (item : Item Q) (r : R) (old new : List (MadeReply R))
      → new ≡ old ++ record { client = item.client; number = item.number; reply = r } ∷ [] → old
      ≡ replies_of service state front → machine ≡ state_after service state front
      → r ≡ service.reply machine item.request
      → new ≡ replies_of service state (front ++ item ∷ [])
  answers_push state machine front item r old new new_is old_is machine_is r_is =
      let r_was : r ≡ service.reply (state_after service state front) item.request = r_is
      ∙ ap (λ (m : M). service.reply m item.request) machine_is in
      new_is
      ∙ ap (λ (list : List (MadeReply R)). list ++ record {
        client = item.client;
        number = item.number;
        reply =
            r;
      } ∷ []) old_is
      ∙ ap (λ (x : R). replies_of service state front ++ record {
        client = item.client;
        number =
            item.number;
        reply = x;
      } ∷ []) r_was
      ∙ sym (answers-append state front item)

  pub state_push : (state machine next : M) (front : List (Item Q)) (item : Item Q) → machine
      ≡ state_after service state front → next ≡ service.after machine item.request → next
      ≡ state_after service state (front ++ item ∷ [])
  state_push state machine next front item machine_is next_is =
      next_is ∙ ap (λ (m : M). service.after m item.request) machine_is ∙ sym (state-append state front item)

  -- a request that wasn't made before has the reply of the machine after those before it
  pub reply_new : (state : M) (before : List (Item Q)) (item : Item Q) → times item.client item.number before ≡ 0
      → reply_in service state (before ++ item ∷ []) item.client item.number
      ≡ Some (service.reply (state_after service state before) item.request)
  reply_new state [] item none = rw (own item) refl
  reply_new state (x ∷ before) item none =
      ⊎_elim
      (λ (yes : is_from item.client item.number x ≡ true).
      let here : times item.client item.number (x ∷ before) ≡ 1 + times item.client item.number before = rw yes refl in
      absurd (omega arith))
      (λ (no : is_from item.client item.number x ≡ false).
      let rest : times item.client item.number (x ∷ before) ≡ 0 + times item.client item.number before = rw no refl in
      rw no (reply_new (service.after state x.request) before item (omega arith)))
      (cases_Bool (is_from item.client item.number x))
