use Rattle.sm_store.proofs.Right.{honest_is_right}
use Rattle.sm_store.specs.lemmas.Whole.{whole}
use Rattle.sm_store.proofs.laws.keys_are_whole.Goals as goal

pub returns : goal.returns
returns g c = λ charter log shard honest. whole charter shard log (honest_is_right charter log honest)
