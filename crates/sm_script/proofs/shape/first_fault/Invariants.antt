use Rattle.std.proofs.Common.{◌≡◌, drop}
use Rattle.sm_script.specs.Grammar.{first_fault}
use Rattle.sm_script.proofs.shape.first_fault.Given as goal

abbrev pub invariant-loop-shape : goal.invariant-loop-shape
invariant-loop-shape l = first_fault l.shapes l.fn.words ≡ first_fault (drop l.shape-index l.shapes) l.words
