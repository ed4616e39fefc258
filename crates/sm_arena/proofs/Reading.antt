-- A `&` to a chunk shows each of its fields, and the bytes. Assumes `Logic`.
use mathlib.Core.Path.{refl, sym, ap, ◌∙◌}
use mathlib.Core.List.{List, [], ◌∷◌}
use Prim.Native.Nat.{ℕ, ◌+◌, ◌<◌, ◌^◌}
use seplogic.Ra.Ura.{Ura}
use mir.Syntax.{w64, ty_int, ty_ptr}
use mir.Val.{Val, vint, vptr}
use base.Logic.{ent, sep}
use base.Fml.{Lft, Share, Fml, fat, flft}
use types.Logic.{Logic, sem}
use types.Kit.{Goal, Soaks, Step, step, Seq, Item, ‵, ◌⊛◌, ◌$◌, ◌∵◌, !, qed, move, keep, drop, use1, split, rewrite}
use types.Kit.{fsplit, fjoin, feq_l, feq_i, flt_l, flt_i, done}
use denote.Builtin.{usize, RawPtr}
use denote.Copied.{plain_Copied, uint_Copied}
use denote.RattleType.{RattleType, RowLaws}
use denote.Memory.{cell_at, part_at, hidden_shr}
use denote.Opens.{Shut, shr_dup, unhide, hide}
use denote.Param.{param}
use denote.Param.Shared.{copy_shared}
use denote.Plain.{uint_row_laws}
use denote.RawPtr.{Ptr, coded_ptr, ptr_own, rawptr_pure, ptr_val, block_of, count_of, InBlock, at_block, ptr_row_laws}
use denote.Steps.{looks, shuts}
use denote.Struct.Laws.{RawPtr-laws, field_copy}
use denote.Struct.Struct.{Struct, Struct-row_laws}
use denote.Struct.Owning.{shape}
use Rattle.core.specs.declared.alloc.Allocator.{Ghosts}
use Rattle.core.specs.contracts.marker.PhantomData as marker
use Rattle.sm_arena.specs.contracts.chunk.Chunk as chunk

module _ (A : RattleType) (g : Ghosts A.Denot) where
  abbrev pub Chunk : Type 0
  Chunk = (chunk.the_row (param 0 A) g).Denot

  abbrev pub Fields : RattleType
  Fields = Struct (shape (chunk.the_type (param 0 A) g))

  abbrev pub fields_of : Chunk → Fields.Denot
  fields_of c = (c.at, (c.size, (c.used, (tt, tt))))

  fields_laws : RowLaws Fields
  fields_laws =
      Struct-row_laws (shape (chunk.the_type (param 0 A) g)) (
        ptr_row_laws,
        (
          uint_row_laws w64,
          (
            uint_row_laws w64,
            ((copy_shared (marker.the_field RawPtr) (field_copy (marker.the_type RawPtr) tt)).shr_laws, tt),
          ),
        ),
      )

  module _ {M : Type 1} {𝓤 : Ura M} (𝓛 : Logic 𝓤) (κ : Lft) (b o : ℕ) (c : Chunk) where
    abbrev pub shown : Fml
    shown = hidden_shr Fields κ (fields_of c) b o

    pub shows_at : ent 𝓤 (sem 𝓛 shown) (sep 𝓤 (sem 𝓛 (hidden_shr RawPtr κ c.at b (o + 0))) (sem 𝓛 shown))
    shows_at = qed 𝓛 (‵ shown ∷ []) ∵ shr_dup ! Fields fields_laws
        (fields_of c) b o κ $ unhide ! $ fsplit ! $ fsplit ! $ hide ! $ keep ! (0 ∷ 3 ∷ []) $ done !

    pub shows_used : ent 𝓤 (sem 𝓛 shown) (sep 𝓤 (sem 𝓛 (hidden_shr usize κ c.used b (o + 16))) (sem 𝓛 shown))
    shows_used = qed 𝓛 (‵ shown ∷ []) ∵ shr_dup ! Fields fields_laws (fields_of c) b o κ $ unhide ! $ fsplit ! $ fsplit
        ! $ drop ! $ fsplit ! $ drop ! $ fsplit ! $ hide ! $ keep ! (0 ∷ 3 ∷ []) $ done !

-- A number or a pointer behind a `&` is opened for a read, and shut again: [the cell; the way back; the facts that
-- show the `&`].
module _ {M : Type 1} {𝓤 : Ura M} {𝓛 : Logic 𝓤} {K : Type 0} {Γ : List (Item 𝓤)} {G : Goal 𝓤 𝓛.H} where
  pub opens_number : K → Soaks G → {κ : Lft} {q : Share} {S : Fml} (n b at : ℕ)
      → ent 𝓤 (sem 𝓛 S) (sep 𝓤 (sem 𝓛 (hidden_shr usize κ n b at)) (sem 𝓛 S))
      → ((q' : Share) → n < 2 ^ 64
      → Seq K 𝓛 (‵ (fat q' (ty_int w64) b at (vint w64 n)) ∷ Shut 𝓛 κ q (part_at usize q' n b at) ∷ ‵ S ∷ Γ) G)
      → Seq K 𝓛 (‵ S ∷ ‵ (flft κ q) ∷ Γ) G
  opens_number t z {κ} {q} {S} n b at shows next =
      use1 𝓛 (‵ (hidden_shr usize κ n b at) ⊛ ‵ S) shows $ split t $ move t (0 ∷ 2 ∷ []) $
      looks t z usize (uint_Copied 𝓛 w64).opens n b at
      (λ q' vs. move t (1 ∷ []) $ fsplit t $ feq_l t (λ is. flt_l t (λ fits.
      rewrite t 0 (λ (us : List Val). ‵ (cell_at q' usize.mir us b at)) is refl $ move t
      (2 ∷ []) $ drop t $ next q' fits)))

  pub shuts_number : K → Soaks G → {κ : Lft} {q q' : Share} (n b at : ℕ) → n < 2 ^ 64
      → Step K 𝓛 (‵ (flft κ q) ∷ Γ) G
      (‵ (fat q' (ty_int w64) b at (vint w64 n)) ∷ Shut 𝓛 κ q (part_at usize q' n b at) ∷ Γ) G
  shuts_number t z {q' = q'} n b at fits = step (λ s.
      flt_i t n (2 ^ 64) fits $ feq_i t (List Val) (vint w64 n ∷ []) (vint w64 n ∷ []) refl $ fjoin t $ move t
      (1 ∷ 0 ∷ []) $ shuts t z usize q' n (vint w64 n ∷ []) b at $ s)

  pub opens_pointer : K → Soaks G → {κ : Lft} {q : Share} {S : Fml} (p : Ptr) → InBlock p → (b at : ℕ)
      → ent 𝓤 (sem 𝓛 S) (sep 𝓤 (sem 𝓛 (hidden_shr RawPtr κ p b at)) (sem 𝓛 S))
      → ((q' : Share) → Seq K 𝓛 (‵ (fat q' ty_ptr b at (vptr (block_of p) (count_of p)))
      ∷ Shut 𝓛 κ q (part_at RawPtr q' p b at) ∷ ‵ S ∷ Γ) G) → Seq K 𝓛 (‵ S ∷ ‵ (flft κ q) ∷ Γ) G
  opens_pointer t z {κ} {q} {S} p inside b at shows next =
      use1 𝓛 (‵ (hidden_shr RawPtr κ p b at) ⊛ ‵ S) shows $ split t $ move t (0 ∷ 2 ∷ []) $
      looks t z RawPtr (plain_Copied 𝓛 Ptr coded_ptr (ty_ptr ∷ []) ptr_own rawptr_pure ptr_val RawPtr-laws.tells).opens
      p b at (λ q' vs. move t (1 ∷ []) $ feq_l t (λ is.
      rewrite t 0 (λ (us : List Val). ‵ (cell_at q' RawPtr.mir us b at))
      (is ∙ ap (λ (r : Ptr). ptr_val r ∷ []) (at_block p inside)) refl $ move t (2 ∷ []) $ drop t $ next q'))

  pub shuts_pointer : K → Soaks G → {κ : Lft} {q q' : Share} (p : Ptr) → InBlock p → (b at : ℕ)
      → Step K 𝓛 (‵ (flft κ q) ∷ Γ) G
      (‵ (fat q' ty_ptr b at (vptr (block_of p) (count_of p))) ∷ Shut 𝓛 κ q (part_at RawPtr q' p b at) ∷ Γ) G
  shuts_pointer t z {q' = q'} p inside b at = step (λ s.
      feq_i t (List Val) (vptr (block_of p) (count_of p) ∷ []) (ptr_val p ∷ [])
      (ap (λ (r : Ptr). ptr_val r ∷ []) (sym (at_block p inside))) $ move t (1 ∷ 0 ∷ []) $
      shuts t z RawPtr q' p (vptr (block_of p) (count_of p) ∷ []) b at $ s)
