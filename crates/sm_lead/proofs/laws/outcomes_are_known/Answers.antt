use Rattle.sm_lead.proofs.Knowing.{outcome_goes_by, outcome_known}
use Rattle.sm_lead.proofs.laws.outcomes_are_known.Goals as goal

pub returns : goal.returns
returns g c = record { knows = outcome_known; goes_by = outcome_goes_by }
