use Rattle.std.proofs.Common.{◌≡◌, ◌≤◌, None, replicate}
use Rattle.std.specs.Prelude.{vec_capacity, vec_len}
use Rattle.sm_cluster.proofs.holds.Holds.new.Given as goal

-- so many places were made, and there is room for all
abbrev pub invariant-loop : goal.invariant-loop
invariant-loop g l =
    (l.slots.items ≡ replicate l.counter None) × (vec_len l.slots ≡ l.counter) × (l.count ≤ vec_capacity l.slots)
