use Rattle.sm_permit.proofs.Views.{new, told}
use Rattle.sm_permit.proofs.laws.views_know.Goals as goal

pub returns : goal.returns
returns g c = record { new = new; told = told }
