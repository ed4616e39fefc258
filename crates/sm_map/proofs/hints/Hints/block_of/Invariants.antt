use Rattle.std.proofs.Common.{◌≤◌, ◌+◌, vec_len}
use Rattle.sm_map.proofs.hints.Hints.block_of.Given as goal

abbrev pub invariant-loop-size : goal.invariant-loop-size
invariant-loop-size l = l.low + l.size ≤ vec_len l.self.starts

abbrev pub decreases-loop-size : goal.decreases-loop-size
decreases-loop-size l = l.size
