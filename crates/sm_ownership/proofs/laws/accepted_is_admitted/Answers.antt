use Rattle.sm_ownership.specs.lemmas.Faults.{admit_fault-accepted}
use Rattle.sm_ownership.proofs.laws.accepted_is_admitted.Goals as goal

pub returns : goal.returns
returns c = λ ceiling state server mode accepted. admit_fault-accepted ceiling state server mode accepted
