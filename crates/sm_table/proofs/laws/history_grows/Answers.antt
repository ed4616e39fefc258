use Rattle.sm_table.proofs.Runs as runs
use Rattle.sm_table.proofs.laws.history_grows.Goals as goal

pub returns : goal.returns
returns g c = runs.history_grows
