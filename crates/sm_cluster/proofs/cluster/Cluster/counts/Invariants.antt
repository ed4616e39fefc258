use Rattle.std.proofs.Common.{◌≡◌, length}
use Rattle.sm_cluster.proofs.cluster.Cluster.counts.Given as goal

-- there is a row for each shard below the number
abbrev pub invariant-loop-number : goal.invariant-loop-number
invariant-loop-number g l = length l.shards.items ≡ l.number
