-- The memory of a chunk: bytes that are written one after another, and the room that is left behind them. Assumes
-- `Logic`.
use Rattle.std.proofs.Common.{◌≡◌, ℕ, suc, ◌+◌, ◌-◌, ◌*◌, ◌^◌, ◌≤◌, ◌<◌, List, [], ◌∷◌, ◌++◌, length, refl, sym, ◌∙◌}
use Rattle.std.proofs.Common.{arith, length-append}
use seplogic.Ra.Ura.{Ura}
use base.Fraction.{full_share}
use base.Logic.{ent, sep}
use base.Fml.{feq, fsep, froom}
use mir.Syntax.{Ty, w8, ty_int}
use prog.Memory.{size, capped}
use prog.Capped.{capped_is}
use types.Logic.{Logic, sem}
use types.Kit.{‵, ◌⊛◌, ◌$◌, ◌∵◌, !, qed, move, use1, use2, split, fsplit, fjoin, feq_i, feq_l, rewrite, done}
use denote.Array.{Array}
use denote.Builtin.{u8}
use denote.Memory.{part_at}
use denote.RawPtr.Bytes.{bytes, bytes_glue, bytes_apart, bytes_whole, bytes-room}
use denote.RawPtr.Room.{past_bytes, room_glue}
use denote.Steps.{nothing}
use Rattle.sm_arena.specs.Ownership.{chunk_type}

abbrev pub byte : Ty
byte = ty_int w8

pub chunk_size : (n : ℕ) → n < 2 ^ 63 → capped (size (chunk_type n)) ≡ n
chunk_size n small = let one : n * 1 ≡ n = omega arith in capped_is (size (chunk_type n)) (omega (arith, one)) ∙ one

module _ {M : Type 1} {𝓤 : Ura M} (𝓛 : Logic 𝓤) where
  open 𝓛 use {H}

  -- nothing is written yet
  pub nothing_written : (n b o : ℕ) → ent 𝓤 (H.room (chunk_type n) b o)
      (sep 𝓤 (sem 𝓛 (part_at (Array u8 0) full_share [] b o)) (H.room (chunk_type (n - 0)) b (o + 0)))
  nothing_written n b o =
      let all : n ≡ n - 0 = omega arith in
      let start : o ≡ o + 0 = omega arith in
      qed 𝓛 (‵ (froom (chunk_type n) b o) ∷ []) ∵
      rewrite ! 0 (λ (k : ℕ). ‵ (froom (chunk_type k) b o)) all refl $
      rewrite ! 0 (λ (k : ℕ). ‵ (froom (chunk_type (n - 0)) b k)) start refl $
      nothing ! $ feq_i ! ℕ 0 0 refl $ fjoin ! $
      use1 𝓛 (‵ (part_at (Array u8 0) full_share [] b o)) (bytes_whole 𝓛 full_share 0 [] b o) $ done !

  -- the next free byte, and the room after it
  pub spare : (n used b o : ℕ) → used < n → ent 𝓤 (H.room (chunk_type (n - used)) b (o + used))
      (sep 𝓤 (H.room byte b (used + o)) (H.room (chunk_type (n - (used + 1))) b (o + (used + 1))))
  spare n used b o less =
      let rest : ℕ = n - (used + 1) in
      let one_more : n - used ≡ suc rest = omega arith in
      let turned : o + used ≡ used + o = omega arith in
      let next : used + o + 1 ≡ o + (used + 1) = omega arith in
      qed 𝓛 (‵ (froom (chunk_type (n - used)) b (o + used)) ∷ []) ∵
      rewrite ! 0 (λ (k : ℕ). ‵ (froom (chunk_type k) b (o + used))) one_more refl $
      rewrite ! 0 (λ (k : ℕ). ‵ (froom (chunk_type (suc rest)) b k)) turned refl $
      use1 𝓛 (‵ (froom byte b (used + o)) ⊛ ‵ (froom (chunk_type rest) b (used + o + 1)))
      (𝓛.laws.room_uncons byte rest b (used + o)) $ split ! $ move ! (1 ∷ []) $
      rewrite ! 0 (λ (k : ℕ). ‵ (froom (chunk_type rest) b k)) next refl $ move ! (1 ∷ 0 ∷ []) $ done !

  -- one more byte is written
  pub snoc : (n b o : ℕ) (xs : List ℕ) (x : ℕ)
      → ent 𝓤 (sep 𝓤 (sem 𝓛 (part_at (Array u8 n) full_share xs b o)) (sem 𝓛 (part_at u8 full_share x b (n + o))))
      (sem 𝓛 (part_at (Array u8 (n + 1)) full_share (xs ++ x ∷ []) b o))
  snoc n b o xs x =
      qed 𝓛 (‵ (part_at (Array u8 n) full_share xs b o) ∷ ‵ (part_at u8 full_share x b (n + o)) ∷ []) ∵
      use1 𝓛 (‵ (fsep (feq ℕ (length xs) n) (bytes full_share xs b o)))
      (bytes_apart 𝓛 full_share n xs b o) $ fsplit ! $ feq_l ! (λ l.
      let behind : n + o ≡ o + length xs = omega arith in
      let longer : length (xs ++ x ∷ []) ≡ n + 1 = omega (arith, length-append xs (x ∷ [])) in
      move ! (1 ∷ []) $ rewrite ! 0 (λ (k : ℕ). ‵ (part_at u8 full_share x b k)) behind refl $ nothing ! $ move !
      (1 ∷ 0 ∷ []) $ fjoin ! $ move ! (1 ∷ 0 ∷ []) $
      use2 𝓛 (‵ (bytes full_share (xs ++ x ∷ []) b o)) (bytes_glue 𝓛 full_share xs (x ∷ []) b o) $
      feq_i ! ℕ (length (xs ++ x ∷ [])) (n + 1) longer $ fjoin ! $
      use1 𝓛 (‵ (part_at (Array u8 (n + 1)) full_share (xs ++ x ∷ []) b o))
      (bytes_whole 𝓛 full_share (n + 1) (xs ++ x ∷ []) b o) $ done !)

  -- the written bytes and the room left are the whole chunk
  pub all_room : (n used b o : ℕ) (xs : List ℕ) → used ≤ n
      → ent 𝓤 (sep 𝓤 (sem 𝓛 (part_at (Array u8 used) full_share xs b o)) (H.room (chunk_type (n - used)) b (o + used)))
      (H.room (chunk_type n) b o)
  all_room n used b o xs le =
      let whole : used + (n - used) ≡ n = omega arith in
      qed 𝓛 (‵ (part_at (Array u8 used) full_share xs b o) ∷ ‵ (froom (chunk_type (n - used)) b (o + used)) ∷ []) ∵
      use1 𝓛 (‵ (fsep (feq ℕ (length xs) used) (bytes full_share xs b o)))
      (bytes_apart 𝓛 full_share used xs b o) $ fsplit ! $ feq_l ! (λ l.
      use1 𝓛 (‵ (froom (chunk_type (length xs)) b o)) (bytes-room 𝓛 xs b o) $
      rewrite ! 0 (λ (k : ℕ). ‵ (froom (chunk_type k) b o)) l refl $ move ! (1 ∷ []) $
      rewrite ! 0 (λ (k : ℕ). ‵ (froom (chunk_type (n - used)) b k)) (sym (past_bytes used o)) refl $ move !
      (1 ∷ 0 ∷ []) $
      use2 𝓛 (‵ (froom (chunk_type (used + (n - used))) b o)) (room_glue 𝓛 byte used (n - used) b o) $
      rewrite ! 0 (λ (k : ℕ). ‵ (froom (chunk_type k) b o)) whole refl $ done !)
