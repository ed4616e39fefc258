-- `bytes` reads the pointer and the count through the `&`, and hands out the bytes that the `&` lends. Assumes `Logic`.
use Rattle.std.proofs.Common.{◌≡◌, ℕ, ◌+◌, ◌*◌, ◌^◌, List, [], ◌∷◌, ◌++◌, length, refl, ap, arith}
use mir.Syntax.{Fn}
use mir.Val.{Val, vptr}
use mir.MapTy.{inst_fn}
use base.Logic.{SProp, emp}
use base.Fml.{Lft, Share, ftrue, flft, fhide}
use prog.Wp.{Env, WpFn}
use contract.BorrowLft.{◌⊑◌}
use contract.Monad.{fact, fact_i}
use types.Kit.{‵, raw, ◌⊛◌, prop, at_ret, ◌$◌, ◌∵◌, !, qed, by, move, keep, drop, use0, use1, split, join, regoal}
use types.Kit.{fsplit, fjoin, feq_i, flt_i}
use types.Part.{agg}
use types.Run.{stop, fld, load, look, of_opd, no_more, and_then, first, blocks, exec, returns, enter}
use types.ByLocal.{alloc_all, pass_all, free_all, look_at, get, through, sets, sets_last, env}
use denote.RattleType.{RattleType, owns}
use denote.Builtin.{RawPtr}
use denote.Memory.{hidden_shr}
use denote.Opens.{unhide, hide}
use denote.RawPtr.{block_of, count_of, InBlock}
use denote.Param.{param}
use denote.Signature.{types_at}
use denote.Slice.{slice_val}
use denote.Steps.{nothing, heard}
use denote.Struct.Lending.{in_block_says, lent_out}
use denote.Triple.Walked.{Stays, stay_dropped, walk_of, Goes-dropped}
use Rattle.core.specs.contracts.marker.PhantomData as marker
use Rattle.core.proofs.alloc.Shapes.{after}
use Rattle.std.proofs.raw_atomic.Walks.{proved_at, leaves}
use Rattle.sm_arena.proofs.Following.{args_of, calls_of, loops_of, slot_at}
use Rattle.sm_arena.proofs.Reading.{Fields, fields_of, shows_at, shows_used, opens_number, shuts_number, opens_pointer}
use Rattle.sm_arena.proofs.Reading.{shuts_pointer}
use Rattle.sm_arena.specs.contracts.chunk.Chunk as chunk
use Rattle.sm_arena.specs.contracts.chunk.Chunk.bytes.{ended, clauses}
use Rattle.sm_arena.specs.contracts.chunk.Chunk.bytes.Key.{name as #self}
use Rattle.sm_arena.proofs.chunk.Chunk.bytes.Statement.{statement}
use Rattle.sm_arena.proofs.chunk.Chunk.bytes.Code as compiled

pub bytes_spec : {M : Type 1} → statement M
bytes_spec 𝓤 𝓛 𝓜 𝓡 wired A L g d dd met md =
    let H = 𝓛.H in
    let T = ended A g d dd in
    let c = clauses A g d dd 𝓛 𝓜.mem 𝓡.returns in
    let fn : Fn = inst_fn (args_of A d dd) compiled.function in
    let hs : Stays T.signature.params T.kept = (stay_dropped (slot_at 0 T.signature.params) T.kept.0, tt) in
    let C = calls_of 𝓛 𝓜 𝓡 in
    let Λ = loops_of 𝓛 𝓜 𝓡 in
    proved_at 𝓛 T hs c 𝓜 𝓡 (
      Goes-dropped 𝓛 2 (slot_at 0 T.signature.params) T.kept.0 (λ κs x f. refl),
      tt,
    ) (#self (args_of A d dd)) fn (compiled.unfolded 𝓤 H 𝓜 𝓡 wired (A, tt) d dd) (λ z are.
    let Post : Val → SProp 𝓤 = (walk_of 𝓛 T hs c).post z in
    let a = z.0.3 in
    let κ : Lft = z.0.0.0 in
    let q : Share = z.0.1.0 in
    let P : RattleType = param 0 A in
    let b = a.0.ref_ptr.0 in
    let o = a.0.ref_ptr.1 in
    let x = a.0.now in
    let at : ℕ × ℕ = (block_of x.at, count_of x.at) in
    let n = x.used in
    let long = x.fits.0 in
    let inside = x.fits.1 in
    let room = x.fits.2 in
    qed 𝓛 (((‵ (flft κ q) ⊛ ‵ (flft z.0.0.1.0 z.0.1.1.0) ⊛ ‵ ftrue) ⊛ ‵
    (owns (types_at T.signature.params z.0.0) a z.0.4)) ∷ (raw (fact 𝓤 (z.0.0.1.0 ⊑ A.lives)) ⊛ ‵ ftrue) ∷ []) ∵
    split ! $ move ! (1 ∷ []) $ fsplit ! $ fsplit ! $ drop ! $ move ! (0 ∷ 2 ∷ []) $
    use1 𝓛 (‵ (hidden_shr (Fields A g) κ (fields_of A g x) b o) ⊛ ‵ (fhide (chunk.the_lent P g x x.at κ)))
    (lent_out 𝓛 (chunk.struct P g) (chunk.the_codes P.Denot P.coded (marker.the_row RawPtr).coded) (chunk.the_heap P g)
    (chunk.the_lent P g) κ x b o) $ split ! $
    move ! (1 ∷ []) $ unhide ! $ fsplit ! $ use1 𝓛 (raw (fact 𝓤 (InBlock x.at))) (in_block_says 𝓛 x.at) $ heard !
    (InBlock x.at) (λ inb. fsplit ! $ drop ! $ hide ! $
    move ! (2 ∷ []) $ split ! $ move ! (3 ∷ 0 ∷ 1 ∷ 2 ∷ []) $
    -- [what shows the fields; the token; the other one; the bytes, lent]
    regoal ! (λ (us : List Val). prop (WpFn 𝓤 H C Λ fn us Post)) (λ i. are.0.0 i ++ []) refl $
    enter ! C Λ fn (vptr b o ∷ []) Post $
    alloc_all ! (λ l. pass_all ! refl ((tt, tt), tt) $ let E : Env 𝓤 𝓛.H = env fn.locals l in
    first ! $ blocks ! $
    opens_pointer ! tt x.at inb b (o + 0) (shows_at A g 𝓛 κ b o x) (λ q₀.
    sets ! (of_opd ! (load ! (through ! refl (fld ! refl (stop !))) (look ! 0 refl))) refl (tt, tt) $
    shuts_pointer ! tt x.at inb b (o + 0) $ move ! (1 ∷ 0 ∷ []) $
    opens_number ! tt n b (o + 16) (shows_used A g 𝓛 κ b o x) (λ q₁ fits.
    sets ! (of_opd ! (load ! (through ! refl (fld ! refl (stop !))) (look ! 0 refl))) refl (
      tt,
      record { fits = fits },
    ) $
    shuts_number ! tt n b (o + 16) fits $
    sets_last ! (agg ! (and_then ! (get ! refl) (and_then ! (get ! refl) (no_more !)))) refl (
      tt,
      (tt, (record { fits = fits }, tt)),
    ) $
    exec ! C Λ E (after 1 fn.body) (at_ret E Post) $
    sets ! (of_opd ! (get ! refl)) refl (tt, (tt, (record { fits = fits }, tt))) $
    returns ! (look_at ! 0 refl) $ free_all ! refl $ keep ! (3 ∷ 0 ∷ 2 ∷ []) $
    -- [the bytes, lent; the tokens]
    flt_i ! (length x.bytes * 1) (2 ^ 63) (omega (arith, long, inside, room)) $ flt_i ! (length x.bytes) (2 ^ 64)
    (omega (arith, long, inside, room)) $ fjoin ! $
    feq_i ! (List Val) (slice_val at n ∷ []) (slice_val at (length x.bytes) ∷ [])
    (ap (λ (k : ℕ). slice_val at k ∷ []) long) $ fjoin ! $ fjoin ! $
    move ! (1 ∷ 2 ∷ []) $ join ! $ use0 𝓛 (raw (fact 𝓤 (x.bytes ≡ x.bytes)))
    (fact_i 𝓤 (x.bytes ≡ x.bytes) (emp 𝓤) refl) $
    nothing ! $ nothing ! $ fjoin ! $ move ! (2 ∷ 0 ∷ 3 ∷ 1 ∷ []) $
    by ! (leaves 𝓛 T hs c z (slice_val at n) (record { ref_ptr = at; now = x.bytes }) (tt, tt) (tt, tt)))))))
