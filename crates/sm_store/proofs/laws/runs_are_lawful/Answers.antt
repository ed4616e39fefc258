use Rattle.sm_store.proofs.Runs.{lawful, stays_overtaken}
use Rattle.sm_store.proofs.laws.runs_are_lawful.Goals as goal

pub returns : goal.returns
returns g c = record { lawful = lawful; overtaken = stays_overtaken }
