use Rattle.std.proofs.Common.{◌≡◌, ◌+◌, drop}
use Rattle.sm_shard.specs.Decisions.{batch_from}
use Rattle.sm_shard.proofs.shard_state.count_of.Given as goal

abbrev pub invariant-loop-item : goal.invariant-loop-item
invariant-loop-item g l =
    let size = g.M.StoreMachine.size in
    (l.count ≡ l.item-index)
    × (l.count + batch_from l.limits size l.count l.room (drop l.item-index l.items)
    ≡ batch_from l.limits size 0 l.limits.batch_bytes l.items)
