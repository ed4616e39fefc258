use Rattle.std.proofs.Common.{ℕ, ◌*◌, ◌≤◌, Bool, true, false, arith}
use mir.Val.{bool_byte}
use Rattle.sm_map.proofs.hints.Hints.block_of.Goals as goal

at_most : (half : ℕ) (b : Bool) → half * bool_byte b ≤ half
at_most half true = omega arith
at_most half false = omega arith

pub overflow_add-low-in-loop-size : goal.overflow_add-low-in-loop-size
overflow_add-low-in-loop-size c = grind (arith, at_most)

pub loop-size-preserved : goal.loop-size-preserved
loop-size-preserved c = grind (arith, at_most)
