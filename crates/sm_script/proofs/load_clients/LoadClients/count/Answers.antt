use Rattle.std.proofs.Common.{rules}
use Rattle.sm_script.proofs.load_clients.LoadClients.count.Goals as goal

pub returns-clause-value : goal.returns-clause-value
returns-clause-value c = search rules
