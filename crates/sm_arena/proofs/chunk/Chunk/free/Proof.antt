-- `free` gives the allocator the whole memory of the chunk, written or not, with the right to free it. Assumes `Logic`.
use Rattle.std.proofs.Common.{◌≡◌, ℕ, ◌-◌, ◌^◌, ◌<◌, w64, List, [], ◌∷◌, ◌++◌, refl, ap, ◌∙◌, arith, lit<}
use mir.Syntax.{Ty, Fn, Dict, place}
use mir.Val.{Val, vint, vptr, vunit}
use mir.MapTy.{inst_fn}
use seplogic.Ra.Ura.{Ura}
use prog.Model.{Model}
use base.Logic.{SProp, never, id⊢, fst∗}
use base.Fml.{Lft, Share, ftrue, fsep, flft, froom}
use prog.Wp.{Env, WpFn}
use contract.BorrowLft.{◌⊑◌, ⊑_trans}
use contract.Monad.{fact}
use contract.Running.{Running}
use types.Logic.{Logic, sem}
use types.Kit.{Item, Sq, runs, ‵, raw, ◌⊛◌, given, later, prop, settles, at_ret, ◌$◌, ◌∵◌, !, qed, by, move, drop, use1}
use types.Kit.{use2, use3, split, join, learn, rewrite, regoal, fsplit, fjoin, feq_i, await}
use types.Part.{whole, sub}
use types.Run.{stop, fld, lit, unit_lit, of_opd, no_more, and_then, first, blocks, exec, returns, enter}
use types.ByLocal.{alloc_all, pass_all, free_all, look_at, get, get_in, sets, lands_last, env, holding, forget_but}
use denote.RattleType.{RattleType, owns}
use denote.RawPtr.{Ptr, block_ptr, null_ptr, in_a_block, room_for, ◌+ₚ◌}
use denote.Param.Laws.{Laws}
use denote.Signature.{types_at}
use denote.Steps.{nothing, heard}
use denote.Triple.Entry.{alive}
use denote.Triple.Call.{calls_at_last}
use denote.Triple.Walked.{Stays, stay_dropped, walk_of, Goes-dropped}
use Rattle.core.specs.declared.alloc.Allocator.{Ghosts}
use Rattle.core.specs.contracts.alloc.Allocator.TheBound.{Met}
use Rattle.core.proofs.alloc.Calls.{Al, seen, Goes-blank, Gives, at_gives, Gives-goes, Gives-Gives}
use Rattle.core.proofs.alloc.Shapes.{after}
use Rattle.core.proofs.atomic.Steps.{fm}
use Rattle.std.proofs.raw_atomic.Walks.{proved_at, leaves}
use Rattle.sm_arena.proofs.Following.{args_of, calls_of, loops_of, slot_at, then_runs, out_of_block}
use Rattle.sm_arena.proofs.Fields.{fields_val, fields_told}
use Rattle.sm_arena.proofs.Rooms.{chunk_size, all_room}
use Rattle.sm_arena.specs.Ownership.{chunk_type, chunk_owns}
use Rattle.sm_arena.specs.contracts.chunk.Chunk.free.{ended, clauses}
use Rattle.sm_arena.specs.contracts.chunk.Chunk.free.Key.{name as #self}
use Rattle.sm_arena.proofs.chunk.Chunk.free.Statement.{statement}
use Rattle.sm_arena.proofs.chunk.Chunk.free.Code as compiled

module _ (A : RattleType) (d dd : Dict) where
  abbrev fn : Fn
  fn = inst_fn (args_of A d dd) compiled.function

  abbrev Y : Laws A → Ghosts A.Denot → Al
  Y L g = record { row = A; laws = L; g = g; d = d; drops = dd }

  -- The call. The whole memory lies at (b, o), and F is all else that is owned.
  module _ {M : Type 1} {𝓤 : Ura M} (𝓛 : Logic 𝓤) (𝓜 : Model 𝓤 𝓛.H) (𝓡 : Running 𝓤 𝓛.H 𝓜) (L : Laws A)
      (g : Ghosts A.Denot) (met : Met 𝓛 𝓜 𝓡 𝓡.env A g d)
      (l : ℕ → ℕ) (F : Item 𝓤) (κ : Lft) (q : Share) (spot : ℕ × ℕ) (handle : A.Denot) (b o size : ℕ)
      (lives : κ ⊑ A.lives) (room : size < 2 ^ 63) (Post : Val → SProp 𝓤) where
    open 𝓛 use {H}

    abbrev E : Env 𝓤 H
    E = env fn.locals l

    abbrev τ : Ty
    τ = chunk_type size

    abbrev Held : List (Item 𝓤)
    Held = ‵ (froom τ b o) ∷ ‵ (g.dealloc_token handle τ (block_ptr b o))
        ∷ (‵ (seen (Y L g) κ spot handle) ⊛ ‵ (flft κ q)) ∷ F
        ∷ holding 𝓛 E ((2, vptr spot.0 spot.1) ∷ (3, vptr b o) ∷ (4, vint w64 size) ∷ [])

    gives : Sq 𝓛 (‵ (flft κ q) ∷ F ∷ []) (prop (Post vunit))
        → Sq 𝓛 Held (runs (calls_of 𝓛 𝓜 𝓡) (loops_of 𝓛 𝓜 𝓡) E (after 2 fn.body) (at_ret E Post))
    gives ends =
        let y = at_gives (Y L g) 𝓛 𝓜.mem 𝓡.returns κ q spot handle b o size 1 τ in
        first ! $ blocks ! $
        use3 𝓛 (raw ((Gives (Y L g) 𝓛 𝓜.mem 𝓡.returns).pre y)) (Gives-goes (Y L g) 𝓛 𝓜.mem 𝓡.returns κ q spot handle
        lives b o size 1 τ (chunk_size size room) refl (omega arith) (lit< tt)) $
        calls_at_last ! (fm 𝓛 𝓜 𝓡) (Gives (Y L g) 𝓛 𝓜.mem 𝓡.returns) (met.deallocate dd) y (and_then ! (get ! refl)
        (and_then ! (get ! refl) (and_then ! (get ! refl) (and_then ! (lit ! tt) (no_more !))))) (λ v.
        use1 𝓛 (later (given (v ≡ vunit) (‵ (flft κ q))))
        (Gives-Gives (Y L g) 𝓛 𝓜.mem 𝓡.returns κ q spot handle b o size 1 τ v) $ await ! tt $ learn ! (λ e.
        regoal ! (λ (u : Val). settles E (place 5 []) u
        (out_of_block 𝓛 (then_runs 𝓛 (calls_of 𝓛 𝓜 𝓡) (loops_of 𝓛 𝓜 𝓡) E (after 3 fn.body) (at_ret E Post))))
        (e) refl $ lands_last ! refl (tt, tt) $
        exec ! (calls_of 𝓛 𝓜 𝓡) (loops_of 𝓛 𝓜 𝓡) E (after 3 fn.body) (at_ret E Post) $
        sets ! (of_opd ! (unit_lit !)) refl (tt, tt) $
        returns ! (look_at ! 0 refl) $ free_all ! refl $ ends))

pub free_spec : {M : Type 1} → statement M
free_spec 𝓤 𝓛 𝓜 𝓡 wired A L g d dd met md =
    let H = 𝓛.H in
    let T = ended A g d dd in
    let c = clauses A g d dd 𝓛 𝓜.mem 𝓡.returns in
    let hs : Stays T.signature.params T.kept = (
      stay_dropped (slot_at 0 T.signature.params) T.kept.0,
      (stay_dropped (slot_at 1 T.signature.params) T.kept.1.0, tt),
    ) in
    proved_at 𝓛 T hs c 𝓜 𝓡 (
      Goes-blank 𝓛 2 (slot_at 0 T.signature.params) T.kept.0 (λ κs x f. tt),
      (Goes-dropped 𝓛 2 (slot_at 1 T.signature.params) T.kept.1.0 (λ κs x f. refl), tt),
    ) (#self (args_of A d dd))
    (fn A d dd) (compiled.unfolded 𝓤 H 𝓜 𝓡 wired (A, tt) d dd) (λ z are.
    let Post : Val → SProp 𝓤 = (walk_of 𝓛 T hs c).post z in
    let a = z.0.3 in
    let vss = z.0.4 in
    let κ : Lft = z.0.0.0 in
    let q : Share = z.0.1.0 in
    let x = a.0 in
    let handle = a.1.0.now in
    let spot = a.1.0.ref_ptr in
    let τ : Ty = chunk_type x.size in
    let told = fields_told x.at x.size x.used vss.0 are.0.0 in
    let room = x.fits.2 in
    let Asked : Type 0 = x.alloc ≡ handle in
    qed 𝓛 ((raw (alive 𝓛 T.signature z.0.0 z.0.1) ⊛ ‵ (owns (types_at T.signature.params z.0.0) a vss))
    ∷ (raw (fact 𝓤 (z.0.0.1.0 ⊑ A.lives)) ⊛ raw (fact 𝓤 Asked)) ∷ []) ∵
    move ! (1 ∷ []) $ split ! $ heard ! (z.0.0.1.0 ⊑ A.lives) (λ le. heard ! Asked (λ asked. split ! $ move ! (1 ∷ []) $
    fsplit ! $ fsplit ! $ drop ! $ rewrite ! 0
    (λ (u : A.Denot). ‵ (chunk_owns (g.dealloc_token u) x.at x.size x.used x.bytes)) asked refl $
    in_a_block ! x.at (λ r. chunk_owns (g.dealloc_token handle) r x.size x.used x.bytes)
    (fst∗ 𝓤 (never 𝓤) (sem 𝓛 (fsep (room_for (chunk_type (x.size - x.used)) (null_ptr +ₚ x.used))
    (g.dealloc_token handle τ null_ptr)))) (λ b o placed.
    move ! (1 ∷ []) $ fsplit ! $ fsplit ! $ drop ! $ move ! (1 ∷ []) $ drop ! $ use1 𝓛
    (‵ (seen (Y A d dd L g) κ spot handle)) (id⊢ 𝓤 _) $ move ! (2 ∷ []) $
    use1 𝓛 (‵ (flft κ q) ⊛ ‵ (flft z.0.0.1.0 z.0.1.1.0) ⊛ ‵ ftrue) (id⊢ 𝓤 _) $ split ! $ move !
    (2 ∷ 0 ∷ []) $ join ! $ move ! (2 ∷ []) $ fsplit ! $ move ! (1 ∷ []) $ fsplit ! $ move ! (2 ∷ 0 ∷ 1 ∷ []) $
    -- [the bytes; the room after them; the right to free them; the `&` with its token]
    use2 𝓛 (‵ (froom τ b o)) (all_room 𝓛 x.size x.used b o x.bytes x.fits.1) $
    regoal ! (λ (us : List Val). prop (WpFn 𝓤 H (calls_of 𝓛 𝓜 𝓡) (loops_of 𝓛 𝓜 𝓡) (fn A d dd) us Post))
    (λ i. (told.0 ∙ ap (λ (r : Ptr). fields_val r x.size x.used ∷ []) placed) i ++ (are.1.0.0 i ++ [])) refl $
    enter ! (calls_of 𝓛 𝓜 𝓡) (loops_of 𝓛 𝓜 𝓡) (fn A d dd)
    (fields_val (block_ptr b o) x.size x.used ∷ vptr spot.0 spot.1 ∷ []) Post $
    alloc_all ! (λ l. pass_all ! refl (
      (tt, (tt, (record { fits = told.1 }, (record { fits = told.2 }, (tt, tt))))),
      ((tt, tt), tt),
    ) $ let E : Env 𝓤 𝓛.H = env (fn A d dd).locals l in
    sets ! (of_opd ! (get_in ! (fld ! refl (stop !)) (sub ! 0 refl (whole !)))) refl (tt, tt) $
    sets ! (of_opd ! (get_in ! (fld ! refl (stop !)) (sub ! 1 refl (whole !)))) refl (tt, record { fits = told.1 }) $
    forget_but ! E (2 ∷ 3 ∷ 4 ∷ []) refl $
    gives A d dd 𝓛 𝓜 𝓡 L g met l (‵ (flft z.0.0.1.0 z.0.1.1.0) ⊛ ‵ ftrue) κ q spot handle b o x.size
    (⊑_trans κ z.0.0.1.0 A.lives z.0.2.0 le) x.fits.2 Post (
    join ! $
    feq_i ! (List Val) (vunit ∷ []) (vunit ∷ []) refl $ nothing ! $ nothing ! $ nothing ! $ fjoin ! $ nothing ! $ fjoin
    ! $ move ! (3 ∷ 0 ∷ 2 ∷ 1 ∷ []) $
    by ! (leaves 𝓛 T hs c z (vunit) (tt) (tt, (tt, tt)) (tt, (tt, tt)))))))))
