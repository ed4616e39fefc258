use Rattle.std.proofs.Common.{◌-◌}
use Rattle.sm_map.proofs.tags.tag_of.Given as goal

abbrev pub decreases-loop-at : goal.decreases-loop-at
decreases-loop-at l = l.last - l.at
