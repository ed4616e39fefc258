use Rattle.sm_ranges.specs.Stand.{names}
use Rattle.sm_tasks.proofs.Tallies.{CountsTo}
use Rattle.sm_tasks.proofs.groups.named_by_group.Given as goal

abbrev pub invariant-loop-shard : goal.invariant-loop-shard
invariant-loop-shard l = CountsTo (λ stand. names stand l.a) l.books.shards l.shard-index l.counts
