use Rattle.sm_permit.proofs.Permits.{one_permit}
use Rattle.sm_permit.proofs.laws.one_permit.Goals as goal

pub returns : goal.returns
returns g c = one_permit
