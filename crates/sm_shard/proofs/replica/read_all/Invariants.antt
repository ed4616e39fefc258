use Rattle.std.proofs.Common.{◌≡◌, map, take}
use Rattle.sm_shard.specs.Replicas.{read_of, told_read}
use Rattle.sm_shard.proofs.replica.read_all.Given as goal

abbrev pub invariant-loop-item : goal.invariant-loop-item
invariant-loop-item g l =
    let machine = g.M.StoreMachine in
    map told_read l.reads.items ≡ map (read_of machine.service l.machine) (take l.item-index l.items)
