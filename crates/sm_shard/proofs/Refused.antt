-- A refused call leaves a server what it knew.
use Rattle.std.proofs.Common.{◌≡◌, subst, sym}
use Rattle.std.specs.Prelude.{Option, Some, Result, Ok, Err, OnErr}
use Rattle.sm_shard.specs.declared.shard_state.ShardState.{ShardState}
use Rattle.sm_shard.specs.ShardServers.{IsAsReady, IsSameState}

-- if the state is as it was once a fact holds, and the fact holds on a refusal, the server has what it had
pub as_ready : {M Q R T E F : Type 0} (was : Option (ShardState M Q R)) (old new : ShardState M Q R)
    (result : Result T E) → was ≡ Some old → (F → IsSameState old new) → OnErr result F
    → OnErr result (IsAsReady was (Some new))
as_ready was old new (Ok value) is same fact = tt
as_ready was old new (Err fault) is same fact =
    subst (λ ready. IsAsReady ready (Some new)) (sym is) (same fact)
