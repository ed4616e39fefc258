use Rattle.std.proofs.Common.{◌-◌}
use Rattle.std.specs.Slice.Scan.{HoldsNowhere, differ}
use Rattle.sm_ranges.proofs.order.compare.Given as goal

abbrev pub invariant-loop-at : goal.invariant-loop-at
invariant-loop-at l = HoldsNowhere (differ l.first l.second) 0 l.at

abbrev pub decreases-loop-at : goal.decreases-loop-at
decreases-loop-at l = l.last - l.at
