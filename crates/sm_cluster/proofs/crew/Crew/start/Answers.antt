use Rattle.sm_cluster.proofs.Crewing.{team_more}
use Rattle.sm_cluster.proofs.crew.Crew.start.Goals as goal

pub loop-inbox-preserved : goal.loop-inbox-preserved
loop-inbox-preserved g c =
    team_more _ _ _ _ _ _ _ _ c.in_ok-start_team.ensures.started c.loop-inbox-test.true c.inbox-item.is
    c.loop-inbox.invariant
