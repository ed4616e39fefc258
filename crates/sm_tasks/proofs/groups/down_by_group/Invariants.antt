use Rattle.sm_tasks.specs.Approvals.{names_down}
use Rattle.sm_tasks.proofs.Tallies.{CountsTo}
use Rattle.sm_tasks.proofs.groups.down_by_group.Given as goal

abbrev pub invariant-loop-shard : goal.invariant-loop-shard
invariant-loop-shard l = CountsTo (names_down l.books l.a) l.books.shards l.shard-index l.counts
