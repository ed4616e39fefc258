-- A server's transactions ask only for requests that were asked.
use Rattle.std.proofs.Common.{◌≡◌, ℕ, List, [], ◌∷◌, ◌++◌, ◌+◌, true, false, append-nil, refl, sym, subst}
use Rattle.std.specs.Prelude.{Bool, Option, Some, None, IfSome, ◌==◌, ◌||◌, if◌then◌else◌}
use Rattle.std.specs.List.{AllByRecursion}
use Rattle.std.proofs.lemmas.Bool.{eqb-true}
use Rattle.sm_store.specs.declared.head.Head.{Head}
use Rattle.sm_store.specs.declared.item.Item.{Item}
use Rattle.sm_store.specs.Linear.{AsksFor, DidAsk}
use Rattle.sm_store.specs.System.{Ask}
use Rattle.sm_shard.specs.Bases.{Part}
use Rattle.sm_shard.specs.Decisions.{named_by}
use Rattle.sm_shard.specs.declared.base_work.BaseWork.{BaseWork}
use Rattle.sm_shard.specs.declared.base_work.NamedBase.{NamedBase}
use Rattle.sm_shard.specs.declared.shard_state.ShardState.{ShardState}
use Rattle.sm_shard.specs.ShardServers.{AreRequestsAskedOf, IsAsked, basing_by, basing_from, transaction_for}
use Rattle.sm_shard.specs.Steps.{bases_of, transactions_of}

module _ {Q : Type 0} where
  abbrev AllAsked : List (Ask Q) → ℕ → List (Item Q) → Type 0
  AllAsked asked shard items =
      AllByRecursion (λ item. DidAsk asked shard item.client item.number item.request) items

  none_asked : (b : Bool) (asked : List (Ask Q)) (shard : ℕ) → AllAsked asked shard (if b then [] else [])
  none_asked true asked shard = tt
  none_asked false asked shard = tt

  made_asked : (b : Bool) (asked : List (Ask Q)) (k : ℕ) (items : List (Item Q))
      → (b ≡ true → AllAsked asked k items)
      → AllAsked asked k (if b || false then (if b then items else []) ++ [] else [])
  made_asked true asked k items all = subst (AllAsked asked k) (sym (append-nil items)) (all refl)
  made_asked false asked k items all = tt

  for_asks :
      (R : Type 0) (asked : List (Ask Q)) (shard me : ℕ) (base : Option NamedBase) (items : List (Item Q)) (head : Head)
      (stood logged : ℕ) → AllByRecursion (IsAsked asked shard) items
      → AsksFor asked (transaction_for {R = R} shard me base items head stood logged)
  for_asks R asked shard me None [] head stood logged all = λ k. tt
  for_asks R asked shard me (Some base) [] head stood logged all =
      λ k. none_asked (shard == k || false) asked k
  for_asks R asked shard me base (item ∷ items) head stood logged all =
      λ k. made_asked (shard == k) asked k (item ∷ items)
      (λ same. subst (λ (n : ℕ). AllAsked asked n (item ∷ items)) (eqb-true shard k same) all)

module _ {Q R : Type 0} where
  from_asks : (asked : List (Ask Q)) (shard number place : ℕ) (parts : List (Part R))
      → AllByRecursion (AsksFor asked) (basing_from shard number place parts)
  from_asks asked shard number place [] = tt
  from_asks asked shard number place (part ∷ parts) =
      ((λ k. tt), from_asks asked shard number (place + 1) parts)

  basing_asks : (asked : List (Ask Q)) (shard : ℕ) (work : Option (BaseWork R))
      → AllByRecursion (AsksFor asked) (basing_by shard work)
  basing_asks asked shard None = tt
  basing_asks asked shard (Some work) = from_asks asked shard work.number 0 work.parts.items

  -- a server's transactions were asked for, if its requests were
  pub transactions_ask : {M : Type 0} (asked : List (Ask Q)) (me shard : ℕ) (found : Option (ShardState M Q R))
      → IfSome found (λ ready. AreRequestsAskedOf asked shard ready)
      → AllByRecursion (AsksFor asked) (transactions_of me shard found)
  transactions_ask asked me shard None all = tt
  transactions_ask asked me shard (Some ready) all = (
    for_asks R asked shard me (named_by ready.work) ready.sent.items ready.head ready.stood ready.logged all.sent,
    tt,
  )

  -- the parts of a base ask for nothing
  pub bases_ask : {M : Type 0} (asked : List (Ask Q)) (shard : ℕ) (found : Option (ShardState M Q R))
      → AllByRecursion (AsksFor asked) (bases_of shard found)
  bases_ask asked shard None = tt
  bases_ask asked shard (Some ready) = basing_asks asked shard ready.work
