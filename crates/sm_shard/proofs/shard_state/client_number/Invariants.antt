use Rattle.std.proofs.Common.{◌≡◌, take, drop}
use Rattle.sm_store.specs.Clients.{last_of}
use Rattle.sm_shard.specs.Decisions.{client_number}
use Rattle.sm_shard.proofs.shard_state.client_number.Given as goal

abbrev pub invariant-loop-item : goal.invariant-loop-item
invariant-loop-item g l = (last_of l.client (take l.item-index l.items) ≡ 0)
    × (client_number l.client l.items ≡ client_number l.client (drop l.item-index l.items))
