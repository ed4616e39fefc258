use Rattle.std.proofs.Common.{◌≡◌, List, ◌++◌, take}
use Rattle.sm_store.specs.declared.item.Item.{Item}
use Rattle.sm_store.specs.Clients.{AreNext}
use Rattle.sm_store.specs.Clients.{state_after}
use Rattle.sm_shard.specs.Replicas.{IsReplica, replies_of}
use Rattle.sm_shard.proofs.replica.make_all.Given as goal

abbrev pub invariant-loop-item : goal.invariant-loop-item
invariant-loop-item g l =
    let service = g.M.StoreMachine.service in
    let items = take l.item-index l.items in
    record {
      answers : l.answers.items ≡ replies_of service l.fn.replica.machine items;
      machine : l.replica.machine ≡ state_after service l.fn.replica.machine items;
      replica : (before : List (Item g.row.Q.Denot)) → IsReplica service before l.fn.replica
          → IsReplica service (before ++ items) l.replica × AreNext before items;
    }
