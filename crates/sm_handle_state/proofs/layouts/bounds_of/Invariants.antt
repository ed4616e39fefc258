use Rattle.std.proofs.Common.{◌≡◌, take}
use Rattle.sm_ranges.specs.LayoutFault.{texts_of}
use Rattle.sm_handle_state.specs.Layouts.{parts_of}
use Rattle.sm_handle_state.proofs.layouts.bounds_of.Given as goal

abbrev pub invariant-loop-part : goal.invariant-loop-part
invariant-loop-part l = texts_of l.bounds.items ≡ parts_of l.text (take l.part-index l.parts)
