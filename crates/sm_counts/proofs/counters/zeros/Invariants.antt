use Rattle.std.proofs.Common.{◌≡◌, ◌≤◌, length}
use Rattle.sm_counts.proofs.counters.zeros.Given as goal

-- so many counters were made
abbrev pub invariant-loop : goal.invariant-loop
invariant-loop l = (length l.counters.items ≡ l.counter) × (l.counter ≤ l.count)
