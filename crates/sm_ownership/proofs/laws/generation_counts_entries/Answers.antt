use Rattle.sm_ownership.proofs.Generations.{generation}
use Rattle.sm_ownership.proofs.laws.generation_counts_entries.Goals as goal

pub returns : goal.returns
returns g c = generation
