use Rattle.sm_table.proofs.Runs as runs
use Rattle.sm_table.proofs.laws.one_run.Goals as goal

pub returns : goal.returns
returns g c = runs.one_run
