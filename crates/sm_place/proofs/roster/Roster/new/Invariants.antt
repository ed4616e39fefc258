use Rattle.std.proofs.Common.{◌+◌}
use Rattle.sm_ranges.specs.declared.limits.TheConstants.{MAX_SERVER}
use Rattle.sm_place.proofs.Placing.{IsPlacedUpTo}
use Rattle.sm_place.proofs.roster.Roster.new.Given as goal

abbrev pub invariant-loop-at : goal.invariant-loop-at
invariant-loop-at l = IsPlacedUpTo l.rows (MAX_SERVER + 1) l.places.items l.at
