use Rattle.sm_table.proofs.Runs as runs
use Rattle.sm_table.proofs.laws.publications_grow.Goals as goal

pub returns : goal.returns
returns g c = runs.publications_grow
