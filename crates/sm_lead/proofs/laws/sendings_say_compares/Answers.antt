use Rattle.sm_lead.proofs.Compared.{compares_said}
use Rattle.sm_lead.proofs.laws.sendings_say_compares.Goals as goal

pub returns : goal.returns
returns g c = compares_said
