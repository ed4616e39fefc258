use Rattle.sm_lead.proofs.Caps.{keeps_all}
use Rattle.sm_lead.proofs.laws.controls_keep_caps.Goals as goal

pub returns : goal.returns
returns g c = λ reading waits parts log right.
    keeps_all reading c.commands_keep_caps.ensures c.commands_keep_soundness.ensures c.all_up_meets_caps.ensures.new
    waits parts log right
