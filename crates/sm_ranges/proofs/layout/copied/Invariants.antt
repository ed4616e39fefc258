use Rattle.std.proofs.Common.{◌≡◌, take}
use Rattle.sm_ranges.specs.LayoutFault.{texts_of}
use Rattle.sm_ranges.proofs.layout.copied.Given as goal

abbrev pub invariant-loop-bound : goal.invariant-loop-bound
invariant-loop-bound l = l.copies.items ≡ texts_of (take l.bound-index l.bounds)
