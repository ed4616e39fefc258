use Rattle.std.proofs.Common.{◌≡◌, None, replicate}
use Rattle.sm_table.proofs.hands.Hands.none.Given as goal

abbrev pub invariant-loop : goal.invariant-loop
invariant-loop g l = l.hands.items ≡ replicate l.counter None
