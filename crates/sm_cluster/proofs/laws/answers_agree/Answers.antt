use Rattle.sm_cluster.proofs.Placing.{agree}
use Rattle.sm_cluster.proofs.laws.answers_agree.Goals as goal

pub returns : goal.returns
returns g c = agree
