use Rattle.sm_permit.proofs.Views.{acks, are_one, permits}
use Rattle.sm_permit.proofs.laws.views_decide.Goals as goal

pub returns : goal.returns
returns g c = record { permits = permits; one = are_one; acks = acks }
