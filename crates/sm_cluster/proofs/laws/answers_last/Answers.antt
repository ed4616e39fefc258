use Rattle.sm_body.specs.Service.{meaning_of}
use Rattle.sm_rule.specs.Bodies.{Keeps}
use Rattle.sm_cluster.proofs.Stopping.{lasts}
use Rattle.sm_cluster.proofs.laws.answers_last.Goals as goal

pub returns : goal.returns
returns g c =
    lasts (meaning_of g.S.Service.initial g.S.Service.next g.S.Service.answer g.S.Service.key_of)
    (Keeps g.S.Service.initial g.S.Service.next g.S.Service.base g.S.Service.before g.S.Service.requests)
    g.S.Service.limit
