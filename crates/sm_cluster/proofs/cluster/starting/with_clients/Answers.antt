use Rattle.std.proofs.Common.{◌≡◌, ◌∙◌, rules}
use Rattle.std.specs.Arc.{arc_value}
use Rattle.sm_cluster.proofs.cluster.starting.with_clients.Goals as goal

pub returns-in-Ok-manned-clause-theirs : goal.returns-in-Ok-manned-clause-theirs
returns-in-Ok-manned-clause-theirs g c =
    let board : (arc_value c.args.parts.ground).board ≡ c.in-Ok-manned.cluster.control.chair.board = search rules in
    let bounds : (arc_value c.args.parts.ground).layout ≡ c.in-Ok-manned.cluster.bounds = search rules in
    λ k d less. (c.in-Ok.ensures.boards k d less ∙ board, c.in-Ok.ensures.bounds k d less ∙ bounds)
