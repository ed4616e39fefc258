-- A struct with only a marker, as the machine has it, and how it is made from nothing.
use Rattle.std.proofs.Common.{[], ◌∷◌, refl}
use seplogic.Ra.Ura.{Ura}
use mir.Val.{Val, vstruct, vcons, vnil}
use base.Logic.{ent, emp}
use base.Fml.{Fml}
use types.Logic.{Logic, sem}
use denote.RattleType.{RattleType}
use denote.Shadow.{makes_shadow}
use denote.Struct.Struct.{Struct}
use Rattle.std.specs.contracts.marker.PhantomData as Mark

abbrev pub marked_val : Val
marked_val = vstruct (vcons (vstruct vnil) vnil)

abbrev pub marked_own : RattleType → Fml
marked_own R = (Struct (record { name = []; args = []; types = []; fields = Mark.the_row R ∷ [] })).own_val (
  record {},
  tt,
) (marked_val ∷ [])

pub marked_made : {M : Type 1} {𝓤 : Ura M} (𝓛 : Logic 𝓤) (R : RattleType) → ent 𝓤 (emp 𝓤) (sem 𝓛 (marked_own R))
marked_made 𝓛 R = makes_shadow 𝓛 (marked_own R) (λ vss. (tt, ((λ uss. (tt, tt)), tt))) (
  (vstruct vnil ∷ [], tt),
  (refl, ((tt, (refl, tt)), tt)),
)
