use Rattle.std.proofs.Common.{◌≡◌, true, false, rules}
use Rattle.std.specs.List.Sorted.{IsPartitionPoint}
use Rattle.std.proofs.lemmas.List.Sorted.{IsPartitionPoint-from_clause}
use Rattle.sm_ranges.specs.KeyOrder.{is_at_most}
use Rattle.sm_ranges.proofs.Covering.{parted, some_reached, last_place, covering, only}
use Rattle.sm_ranges.proofs.layout.last_reached.Goals as goal

-- the search stopped after all bounds that are at most the key
point : (c : goal.After-partition_point) → IsPartitionPoint (λ bound. is_at_most bound c.args.key.now ≡ true)
    (λ bound. is_at_most bound c.args.key.now ≡ false) c.args.bounds.now c.partition_point.result
point c =
    IsPartitionPoint-from_clause (λ bound. is_at_most bound c.args.key.now) c.args.bounds.now c.partition_point.result
    c.partition_point.ensures.partitioned (parted c.args.bounds.now c.args.key.now c.requires)
    (λ bound r q k. search rules)

pub overflow_sub-result : goal.overflow_sub-result
overflow_sub-result c = some_reached _ _ c.requires _ c.partition_point.ensures.bound (point c)

pub returns-clause-value : goal.returns-clause-value
returns-clause-value c = last_place _ _ c.requires _ c.partition_point.ensures.bound (point c)

pub returns-clause-covers : goal.returns-clause-covers
returns-clause-covers c = covering _ _ c.requires _ c.partition_point.ensures.bound (point c)

pub returns-clause-only : goal.returns-clause-only
returns-clause-only c = only _ _ c.requires _ c.partition_point.ensures.bound (point c)
