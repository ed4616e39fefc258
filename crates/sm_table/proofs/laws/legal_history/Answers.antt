use Rattle.std.proofs.Common.{length, subst}
use Rattle.sm_ownership.specs.History.{IsLegal}
use Rattle.sm_table.specs.World.{empty_world, world_of}
use Rattle.sm_table.proofs.Extensions.{extends_after}
use Rattle.sm_table.specs.lemmas.Soundness.{sound_world}
use Rattle.sm_table.proofs.laws.legal_history.Goals as goal

pub returns : goal.returns
returns g c = λ service frame steps is.
    subst (λ f. IsLegal (length f.bounds) f.ceiling (world_of service frame steps).history)
    (extends_after service (empty_world frame) steps).frame (sound_world service frame steps is).legal
