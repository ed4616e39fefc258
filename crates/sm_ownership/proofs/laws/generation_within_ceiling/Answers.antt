use Rattle.sm_ownership.specs.lemmas.Ceilings.{within_ceiling}
use Rattle.sm_ownership.proofs.laws.generation_within_ceiling.Goals as goal

pub returns : goal.returns
returns g c = record {
  within = λ count ceiling history shard legal. (within_ceiling count ceiling history shard legal).0;
  room_to_end = λ count ceiling history shard legal. (within_ceiling count ceiling history shard legal).1;
}
