-- A request that came is decided.
use Rattle.std.proofs.Common.{◌≡◌, ℕ, Bool, true, false, subst}
use Rattle.std.specs.Global.{Vec}
use Rattle.sm_store.specs.declared.item.Item.{Item}
use Rattle.sm_shard.specs.declared.shard_server.ShardServer.{ShardServer}
use Rattle.sm_shard.specs.declared.shard_state.Decision.{Decision}
use Rattle.sm_shard.specs.declared.steps.ShardOutput.TheVariants.{Decided}
use Rattle.sm_shard.specs.Steps.{IsOutputOf}
use Rattle.sm_shard_bytes.specs.Servers.{ByteInput, ByteOutput, ByteService, IsComing}

-- what comes of a request is a decision
pub always_decided : {M R : Type 0} (service : ByteService M R) (size : Vec ℕ → ℕ) (server : ShardServer M (Vec ℕ) R)
    (reads : Bool) (item : Item (Vec ℕ)) (input : ByteInput R) (output : ByteOutput R) → IsComing reads item input
    → IsOutputOf service size server input output → ((decision : Decision R) → output ≡ Decided decision → ⊥) → ⊥
always_decided service size server true item input output is exact none =
    none _ (subst (λ i. IsOutputOf service size server i output) is exact)
always_decided service size server false item input output is exact none =
    none _ (subst (λ i. IsOutputOf service size server i output) is exact)
