use Rattle.std.proofs.Common.{ap, ◌∙◌}
use Rattle.sm_cluster.specs.Clusters.{ClusterValue}
use Rattle.sm_cluster.proofs.Crewing.{crew_started}
use Rattle.sm_cluster.proofs.cluster.starting.manned.Goals as goal

pub returns-in-Ok-clause-teams : goal.returns-in-Ok-clause-teams
returns-in-Ok-clause-teams g c =
    ap (λ (cluster : ClusterValue g.row.S-Request.Denot). cluster.teams) c.cluster_of.ensures
    ∙ crew_started _ _ c.start-started.result _ _ _ _ c.in-Ok.ensures.ok c.start-started.ensures.started
    c.new-crew.ensures c.as_slice-inboxes.ensures.value
