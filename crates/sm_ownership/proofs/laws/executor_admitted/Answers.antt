use Rattle.sm_ownership.specs.lemmas.Growth.{legal_prefix}
use Rattle.sm_ownership.proofs.Single.{admitted_executor}
use Rattle.sm_ownership.proofs.laws.executor_admitted.Goals as goal

pub returns : goal.returns
returns g c = λ count ceiling history later shard legal. admitted_executor count ceiling history shard
    (legal_prefix count ceiling history later legal)
