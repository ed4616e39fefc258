use Rattle.sm_lead.proofs.Knowing.{held_settings, reading_goes_by, reading_known}
use Rattle.sm_lead.proofs.laws.reading_is_known.Goals as goal

pub returns : goal.returns
returns g c = record { knows = reading_known; goes_by = reading_goes_by; held = held_settings }
