-- `empty` makes the owner of nothing.
use Rattle.sm_kept.proofs.OwnerEmpty.{empty_meets}
use Rattle.sm_relay.proofs.AsOwner.{O}
use Rattle.sm_relay.specs.contracts.owned_relay.OwnedRelay.empty.Key.{name as #self}
use Rattle.sm_relay.proofs.owned_relay.OwnedRelay.empty.Statement as stated
use Rattle.sm_relay.proofs.owned_relay.OwnedRelay.empty.Code as code

pub empty_spec : {M : Type 1} → stated.statement M
empty_spec 𝓤 𝓛 𝓜 𝓡 wired = empty_meets O 𝓤 𝓛 𝓜 𝓡 #self (code.unfolded 𝓤 𝓛.H 𝓜 𝓡 wired)
