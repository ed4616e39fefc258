-- The claims of a server's answers.
use Rattle.std.proofs.Common.{◌≡◌, ℕ, [], map}
use Rattle.std.specs.Prelude.{Option, Some, None, IfNone, IfSome}
use Rattle.std.specs.List.{AllByRecursion}
use Rattle.sm_store.specs.Clients.{Automaton}
use Rattle.sm_store.specs.System.{Claim}
use Rattle.sm_shard.specs.declared.shard_server.StoreAnswers.{StoreAnswers}
use Rattle.sm_shard.specs.declared.shard_state.ShardState.{ShardState}
use Rattle.sm_shard.specs.Replicas.{read_of, replies_of, told_read}
use Rattle.sm_shard.specs.ShardServers.{claimed_all, claimed_reads}
use Rattle.sm_shard.specs.Steps.{AreAnswers, claimed_answers}
use Rattle.sm_shard.proofs.ShardServers.{all-append}

module _ {M Q R : Type 0} where
  pub answers_may : (F : Claim Q R → Type 0) (shard : ℕ) (found : Option (ShardState M Q R)) (answers : StoreAnswers R)
      → IfSome found (λ ready. AllByRecursion F (claimed_all shard ready.sent.items answers.made.items))
      → IfSome found (λ ready. AllByRecursion F
      (claimed_reads shard ready.carried.items (map told_read answers.read.items)))
      → AllByRecursion F (claimed_answers shard found answers)
  answers_may F shard None answers made read = tt
  answers_may F shard (Some ready) answers made read =
      all-append F (claimed_all shard ready.sent.items answers.made.items)
      (claimed_reads shard ready.carried.items (map told_read answers.read.items)) made read

  pub answers_are : (service : Automaton M Q R) (found : Option (ShardState M Q R)) (answers : StoreAnswers R)
      → IfNone found ((answers.made.items ≡ []) × (answers.read.items ≡ []))
      → IfSome found (λ ready. answers.made.items ≡ replies_of service ready.replica.machine ready.sent.items)
      → IfSome found (λ ready. map told_read answers.read.items
      ≡ map (read_of service ready.replica.machine) ready.carried.items)
      → AreAnswers service found answers
  answers_are service None answers unread made read = unread
  answers_are service (Some ready) answers unread made read = (made, read)
