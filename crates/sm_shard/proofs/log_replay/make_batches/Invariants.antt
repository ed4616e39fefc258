use Rattle.std.proofs.Common.{List, ◌++◌, map, take}
use Rattle.sm_store.specs.declared.item.Item.{Item}
use Rattle.sm_store.specs.Whole.{all_items}
use Rattle.sm_shard.specs.Replicas.{IsReplica}
use Rattle.sm_shard.proofs.log_replay.make_batches.Given as goal

abbrev pub invariant-loop-batch : goal.invariant-loop-batch
invariant-loop-batch g l =
    (before : List (Item g.row.Q.Denot)) → IsReplica g.M.StoreMachine.service before l.fn.replica
    → IsReplica g.M.StoreMachine.service
    (before ++ all_items (map (λ batch. batch.items) (take l.batch-index l.batches))) l.replica
