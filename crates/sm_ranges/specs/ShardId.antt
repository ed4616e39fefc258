-- Numbers of shards.
use Rattle.std.specs.Prelude.{ℕ, ◌≤◌}
use Rattle.sm_ranges.specs.declared.limits.TheConstants.{MAX_SHARD}

-- the number names a shard: 0 to 4,095
abbrev pub IsShard : ℕ → Type 0
IsShard number = number ≤ MAX_SHARD
