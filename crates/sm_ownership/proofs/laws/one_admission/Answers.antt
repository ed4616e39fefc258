use Rattle.sm_ownership.specs.lemmas.Growth.{legal_prefix}
use Rattle.sm_ownership.proofs.Single as single
use Rattle.sm_ownership.proofs.laws.one_admission.Goals as goal

pub returns : goal.returns
returns g c = record {
  at_most_one = λ count ceiling history later shard legal. single.at_most_one count ceiling history shard
      (legal_prefix count ceiling history later legal);
  where_admitted = λ count ceiling history later shard legal. single.one_admission count ceiling history shard
      (legal_prefix count ceiling history later legal);
}
