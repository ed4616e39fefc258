use Rattle.sm_lead.proofs.Knowing.{may_be_sent}
use Rattle.sm_lead.proofs.laws.commands_may_be_sent.Goals as goal

pub returns : goal.returns
returns g c = λ reading parts log control acks process command sound by made none waited named.
    may_be_sent reading parts log control sound by c.change_refused_exactly.ensures acks made process command none
    waited named
