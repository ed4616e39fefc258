use Rattle.std.proofs.Common.{◌≡◌, map, take}
use Rattle.sm_place.specs.Books.{vacant_shard}
use Rattle.sm_place.proofs.shard.vacant_shards.Given as goal

abbrev pub invariant-loop-row : goal.invariant-loop-row
invariant-loop-row l = l.shards.items ≡ map vacant_shard (take l.row-index l.rows)
