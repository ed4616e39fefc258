use Rattle.sm_store.proofs.Right.{honest_is_right}
use Rattle.sm_store.proofs.laws.honest_is_right.Goals as goal

pub returns : goal.returns
returns g c = honest_is_right
