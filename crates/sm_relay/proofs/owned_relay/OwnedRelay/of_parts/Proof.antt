-- `of_parts` moves two fields, and everything that they own goes with them.
use Rattle.sm_kept.proofs.OwnerOfParts.{of_parts_meets}
use Rattle.sm_relay.proofs.AsOwner.{O}
use Rattle.sm_relay.specs.contracts.owned_relay.OwnedRelay.of_parts.Key.{name as #self}
use Rattle.sm_relay.proofs.owned_relay.OwnedRelay.of_parts.Statement as stated
use Rattle.sm_relay.proofs.owned_relay.OwnedRelay.of_parts.Code as code

pub of_parts_spec : {M : Type 1} → stated.statement M
of_parts_spec 𝓤 𝓛 𝓜 𝓡 wired = of_parts_meets O 𝓤 𝓛 𝓜 𝓡 #self (code.unfolded 𝓤 𝓛.H 𝓜 𝓡 wired)
