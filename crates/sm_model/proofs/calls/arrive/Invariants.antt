use Rattle.sm_model.proofs.Arrivals.{IsOnItsWay}
use Rattle.sm_model.proofs.calls.arrive.Given as goal

abbrev pub invariant-loop-hop : goal.invariant-loop-hop
invariant-loop-hop l = IsOnItsWay l.fn.world l._hop l.world
