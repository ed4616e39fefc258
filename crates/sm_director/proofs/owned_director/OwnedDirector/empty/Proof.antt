-- `empty` makes the owner of nothing.
use Rattle.sm_kept.proofs.OwnerEmpty.{empty_meets}
use Rattle.sm_director.proofs.AsOwner.{O}
use Rattle.sm_director.specs.contracts.owned_director.OwnedDirector.empty.Key.{name as #self}
use Rattle.sm_director.proofs.owned_director.OwnedDirector.empty.Statement as stated
use Rattle.sm_director.proofs.owned_director.OwnedDirector.empty.Code as code

pub empty_spec : {M : Type 1} → stated.statement M
empty_spec 𝓤 𝓛 𝓜 𝓡 wired = empty_meets O 𝓤 𝓛 𝓜 𝓡 #self (code.unfolded 𝓤 𝓛.H 𝓜 𝓡 wired)
