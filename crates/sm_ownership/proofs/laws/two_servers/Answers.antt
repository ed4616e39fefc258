use Rattle.sm_ownership.proofs.Reaching as reaching
use Rattle.sm_ownership.proofs.laws.two_servers.Goals as goal

pub returns : goal.returns
returns g c = reaching.two_servers
