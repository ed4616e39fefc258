-- `into_parts` moves two fields, and everything that they own goes with them.
use Rattle.sm_kept.proofs.OwnerIntoParts.{into_parts_meets}
use Rattle.sm_relay.proofs.AsOwner.{O}
use Rattle.sm_relay.specs.contracts.owned_relay.OwnedRelay.into_parts.Key.{name as #self}
use Rattle.sm_relay.proofs.owned_relay.OwnedRelay.into_parts.Statement as stated
use Rattle.sm_relay.proofs.owned_relay.OwnedRelay.into_parts.Code as code

pub into_parts_spec : {M : Type 1} → stated.statement M
into_parts_spec 𝓤 𝓛 𝓜 𝓡 wired = into_parts_meets O 𝓤 𝓛 𝓜 𝓡 #self (code.unfolded 𝓤 𝓛.H 𝓜 𝓡 wired)
