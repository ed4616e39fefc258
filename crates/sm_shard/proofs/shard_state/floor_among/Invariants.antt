use Rattle.std.proofs.Common.{◌≡◌, take}
use Rattle.sm_store.specs.Clients.{floor_of}
use Rattle.sm_shard.proofs.shard_state.floor_among.Given as goal

abbrev pub invariant-loop-item : goal.invariant-loop-item
invariant-loop-item g l = l.floor ≡ floor_of (take l.item-index l.items)
