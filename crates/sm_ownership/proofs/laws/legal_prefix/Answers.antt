use Rattle.sm_ownership.specs.lemmas.Growth as growth
use Rattle.sm_ownership.proofs.laws.legal_prefix.Goals as goal

pub returns : goal.returns
returns g c = growth.legal_prefix
