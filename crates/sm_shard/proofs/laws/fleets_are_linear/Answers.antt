use Rattle.sm_shard.proofs.Fleets.{fleet_linear}
use Rattle.sm_shard.proofs.laws.fleets_are_linear.Goals as goal

pub returns : goal.returns
returns g c = λ charter acts parts might others.
    let service = g.M.StoreMachine.service in
    fleet_linear service charter (c.runs_are_lawful.ensures.lawful service charter)
    (λ events at. c.runs_are_linear.ensures.linear service charter events g.met.M.StoreMachine.reads_leave at) acts
    parts
    might others
