-- The fields of a chunk as the machine has them: a pointer, two numbers, and the marker, which has no bytes.
use Rattle.std.proofs.Common.{◌≡◌, ℕ, ◌^◌, ◌<◌, List, [], ◌∷◌, ◌++◌, refl, ◌∙◌, w64}
use seplogic.Ra.Ura.{Ura}
use mir.Val.{Val, vint, vstruct, vcons, vnil, of_list}
use base.Logic.{ent, emp}
use base.Fml.{Fml}
use types.Logic.{Logic, sem}
use denote.RattleType.{RattleType}
use denote.Builtin.{usize}
use denote.RawPtr.{Ptr, RawPtr, ptr_val}
use denote.Shadow.{shadow, makes_shadow}
use denote.Struct.Struct.{Struct}

-- the ownership of a struct does not read its name
abbrev empty_row : RattleType
empty_row = Struct (record { name = []; args = []; types = []; fields = [] })

abbrev fields_row : RattleType
fields_row = Struct (record { name = []; args = []; types = []; fields = RawPtr ∷ usize ∷ usize ∷ empty_row ∷ [] })

abbrev pub fields_val : Ptr → ℕ → ℕ → Val
fields_val at size used =
    vstruct (vcons (ptr_val at) (vcons (vint w64 size) (vcons (vint w64 used) (vcons (vstruct vnil) vnil))))

abbrev pub fields_own : Ptr → ℕ → ℕ → List Val → Fml
fields_own at size used = fields_row.own_val (at, (size, (used, (tt, tt))))

pub fields_told : (at : Ptr) (size used : ℕ) (vs : List Val) → shadow (fields_own at size used vs)
    → (vs ≡ fields_val at size used ∷ []) × (size < 2 ^ 64) × (used < 2 ^ 64)
fields_told at size used vs s = (
  s.1.0 ∙ (λ i. vstruct (of_list (s.1.1.0 i ++ (s.1.1.1.0.0 i ++ (s.1.1.1.1.0.0 i ++ (s.1.1.1.1.1.0.1.0 i ++ [])))))
      ∷ []),
  s.1.1.1.0.1,
  s.1.1.1.1.0.1,
)

pub fields_made : {M : Type 1} {𝓤 : Ura M} (𝓛 : Logic 𝓤) (at : Ptr) (size used : ℕ) → size < 2 ^ 64 → used < 2 ^ 64
    → ent 𝓤 (emp 𝓤) (sem 𝓛 (fields_own at size used (fields_val at size used ∷ [])))
fields_made 𝓛 at size used fits_size fits_used = makes_shadow 𝓛 (fields_own at size used (fields_val at size used ∷ []))
    (λ _. (tt, (tt, ((tt, tt), ((tt, tt), ((λ _. (tt, tt)), tt)))))) (
      (ptr_val at ∷ [], (vint w64 size ∷ [], (vint w64 used ∷ [], (vstruct vnil ∷ [], tt)))),
      (refl, (refl, ((refl, fits_size), ((refl, fits_used), ((tt, (refl, tt)), tt))))),
    )
