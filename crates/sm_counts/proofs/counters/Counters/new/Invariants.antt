use Rattle.std.proofs.Common.{◌≡◌, ◌≤◌, length}
use Rattle.sm_counts.proofs.counters.Counters.new.Given as goal

-- so many tallies were made
abbrev pub invariant-loop : goal.invariant-loop
invariant-loop l = (length l.tallies.items ≡ l.counter) × (l.counter ≤ l.servers)
