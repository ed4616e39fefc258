-- `state_mut` lends the state, and its owner follows.
use Rattle.sm_kept.proofs.OwnerStateMut.{state_mut_meets}
use Rattle.sm_relay.proofs.AsOwner.{O}
use Rattle.sm_relay.specs.contracts.owned_relay.OwnedRelay.state_mut.Key.{name as #self}
use Rattle.sm_relay.proofs.owned_relay.OwnedRelay.state_mut.Statement as stated
use Rattle.sm_relay.proofs.owned_relay.OwnedRelay.state_mut.Code as code

pub state_mut_spec : {M : Type 1} → stated.statement M
state_mut_spec 𝓤 𝓛 𝓜 𝓡 wired = state_mut_meets O 𝓤 𝓛 𝓜 𝓡 #self (code.unfolded 𝓤 𝓛.H 𝓜 𝓡 wired)
