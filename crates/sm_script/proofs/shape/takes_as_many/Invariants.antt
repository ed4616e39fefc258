use Rattle.std.proofs.Common.{◌≡◌, drop}
use Rattle.sm_script.specs.Grammar.{takes_as_many}
use Rattle.sm_script.proofs.shape.takes_as_many.Given as goal

abbrev pub invariant-loop-shape : goal.invariant-loop-shape
invariant-loop-shape l = takes_as_many l.shapes l.fn.words ≡ takes_as_many (drop l.shape-index l.shapes) l.words
