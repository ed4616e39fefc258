use Rattle.std.proofs.Common.{◌≡◌, take}
use Rattle.sm_ranges.proofs.layout.cloned.Given as goal

abbrev pub invariant-loop-bound : goal.invariant-loop-bound
invariant-loop-bound l = l.clones.items ≡ take l.bound-index l.bounds
