use Rattle.std.proofs.Common.{subst}
use Rattle.sm_rule.specs.Bodies.{Keeps}
use Rattle.sm_rule.specs.Changes.{ChairValue}
use Rattle.sm_rule.specs.Closing.{WasClosed}
use Rattle.sm_cluster.proofs.cluster.stopping.closed.Goals as goal

pub returns-in-Ok : goal.returns-in-Ok
returns-in-Ok g c =
    let keeps = Keeps g.S.Service.initial g.S.Service.next g.S.Service.base g.S.Service.before g.S.Service.requests in
    subst (λ (chair : ChairValue g.row.S-Request.Denot). WasClosed keeps g.S.Service.limit chair c.args.closer
    c.close.result.items) c.into_parts-chair.ensures.chair
    c.close.ensures
