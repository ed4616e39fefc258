use Rattle.sm_ownership.proofs.Generations.{same_record}
use Rattle.sm_ownership.proofs.laws.same_generation_same_record.Goals as goal

pub returns : goal.returns
returns g c = same_record
