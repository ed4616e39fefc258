use Rattle.sm_calls.proofs.Doors.{made_of_one_more}
use Rattle.sm_calls.proofs.network.Network.add_servers.Goals as goal

pub loop-row-preserved : goal.loop-row-preserved
loop-row-preserved g c =
    made_of_one_more _ _ _ _ _ _ _ _ c.in_ok-push-3.ensures.items c.loop-row-test.true c.row-item.is
    c.in_ok-door.ensures c.loop-row.invariant
