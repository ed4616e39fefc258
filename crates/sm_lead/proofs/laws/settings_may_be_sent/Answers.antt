use Rattle.sm_lead.proofs.Resettled.{settings_may}
use Rattle.sm_lead.proofs.laws.settings_may_be_sent.Goals as goal

pub returns : goal.returns
returns g c = λ reading parts log control other settings right control_sound by sound caps knew read none.
    settings_may reading parts log control other settings right by sound caps knew read none
