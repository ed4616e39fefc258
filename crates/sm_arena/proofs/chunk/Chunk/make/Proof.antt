-- `make` asks the allocator for the bytes, and makes a chunk of them with nothing written, or answers `None`. Assumes
-- `Logic`.
use Rattle.std.proofs.Common.{◌≡◌, ◌+◌, ◌-◌, ◌^◌, ◌<◌, List, [], ◌∷◌, ◌++◌, refl, arith, lit<, w64, Some, None}
use mir.Syntax.{Ty, Fn}
use mir.Val.{Val, vint, vptr, vcons, vnil}
use mir.MapTy.{inst_fn}
use base.Fraction.{full_share}
use base.Logic.{SProp, emp, id⊢}
use base.Fml.{Lft, Share, ftrue, flft, froom}
use prog.Wp.{Env, WpFn}
use contract.BorrowLft.{◌⊑◌, ⊑_trans}
use contract.Monad.{fact, fact_i}
use types.Kit.{Item, ‵, raw, ◌⊛◌, later, prop, at_ret, ◌$◌, ◌∵◌, !, qed, by, move, drop, use0, use1, use2, split, join}
use types.Kit.{regoal, fsplit, fjoin, await}
use types.Part.{whole, agg}
use types.Match.{live, vrt, in_variant}
use types.Run.{stop, fld, lit, of_opd, no_more, and_then, first, switches_on, exec, returns, enter}
use types.ByLocal.{alloc_all, pass_all, free_all, look_at, get, get_in, get_tag, sets, sets_last, lands_as, env}
use denote.RattleType.{RattleType, owns}
use denote.Array.{Array}
use denote.Builtin.{u8}
use denote.Memory.{part_at}
use denote.RawPtr.{Ptr, block_ptr}
use denote.Param.{param}
use denote.Signature.{types_at, type_at}
use denote.Steps.{nothing, heard}
use denote.Triple.Entry.{alive}
use denote.Triple.Call.{calls_at}
use denote.Triple.Walked.{Stays, stay_dropped, walk_of, Goes-dropped}
use Rattle.core.proofs.alloc.Calls.{Al, seen, Takes, at_takes, Answered, Takes-goes, Takes-gives, answers}
use Rattle.core.proofs.alloc.Shapes.{after, head, arm_body}
use Rattle.core.proofs.atomic.Steps.{fm}
use Rattle.core.proofs.option.Made.{Some-of, none_of}
use Rattle.std.proofs.raw_atomic.Walks.{proved_at, leaves}
use Rattle.sm_arena.proofs.Following.{args_of, calls_of, loops_of, slot_at, then_runs}
use Rattle.sm_arena.proofs.Fields.{fields_val, fields_own, fields_made}
use Rattle.sm_arena.proofs.Rooms.{chunk_size, nothing_written}
use Rattle.sm_arena.specs.Ownership.{chunk_type}
use Rattle.sm_arena.specs.contracts.chunk.Chunk as chunk
use Rattle.sm_arena.specs.contracts.chunk.Chunk.make.{ended, clauses}
use Rattle.sm_arena.specs.contracts.chunk.Chunk.make.Key.{name as #self}
use Rattle.sm_arena.proofs.chunk.Chunk.make.Statement.{statement}
use Rattle.sm_arena.proofs.chunk.Chunk.make.Code as compiled

pub make_spec : {M : Type 1} → statement M
make_spec 𝓤 𝓛 𝓜 𝓡 wired A L g d dd met md =
    let H = 𝓛.H in
    let T = ended A g d dd in
    let c = clauses A g d dd 𝓛 𝓜.mem 𝓡.returns in
    let fn : Fn = inst_fn (args_of A d dd) compiled.function in
    let hs : Stays T.signature.params T.kept = (
      stay_dropped (slot_at 0 T.signature.params) T.kept.0,
      (stay_dropped (slot_at 1 T.signature.params) T.kept.1.0, tt),
    ) in
    let C = calls_of 𝓛 𝓜 𝓡 in
    let Λ = loops_of 𝓛 𝓜 𝓡 in
    proved_at 𝓛 T hs c 𝓜 𝓡 (
      Goes-dropped 𝓛 2 (slot_at 0 T.signature.params) T.kept.0 (λ κs x f. refl),
      (Goes-dropped 𝓛 2 (slot_at 1 T.signature.params) T.kept.1.0 (λ κs x f. refl), tt),
    ) (#self (args_of A d dd)) fn
    (compiled.unfolded 𝓤 H 𝓜 𝓡 wired (A, tt) d dd) (λ z are.
    let Post : Val → SProp 𝓤 = (walk_of 𝓛 T hs c).post z in
    let a = z.0.3 in
    let vss = z.0.4 in
    let Y : Al = record { row = A; laws = L; g = g; d = d; drops = dd } in
    let κ : Lft = z.0.0.0 in
    let q : Share = z.0.1.0 in
    let handle = a.0.now in
    let place = a.0.ref_ptr in
    let size = a.1.0 in
    let τ : Ty = chunk_type size in
    let y = at_takes Y 𝓛 𝓜.mem 𝓡.returns κ q place handle size 1 τ in
    let Out : RattleType = type_at T.signature.result z.0.0 in
    let Asked : Type 0 = size < 2 ^ 63 in
    let Tokens : List (Item 𝓤) = (‵ (flft κ q) ⊛ ‵ (flft z.0.0.1.0 z.0.1.1.0) ⊛ ‵ ftrue) ∷ [] in
    qed 𝓛 ((raw (alive 𝓛 T.signature z.0.0 z.0.1) ⊛ ‵ (owns (types_at T.signature.params z.0.0) a vss))
    ∷ (raw (fact 𝓤 (z.0.0.1.0 ⊑ A.lives)) ⊛ raw (fact 𝓤 Asked)) ∷ []) ∵
    move ! (1 ∷ []) $ split ! $ heard ! (z.0.0.1.0 ⊑ A.lives) (λ le. heard ! Asked (λ asked. split ! $ move ! (1 ∷ []) $
    fsplit ! $ fsplit ! $ drop ! $ move ! (1 ∷ []) $ drop ! $ use1 𝓛 (‵ (seen Y κ place handle)) (id⊢ 𝓤 _) $ move !
    (1 ∷ []) $
    use1 𝓛 (‵ (flft κ q) ⊛ ‵ (flft z.0.0.1.0 z.0.1.1.0) ⊛ ‵ ftrue) (id⊢ 𝓤 _) $ split ! $ move ! (2 ∷ 0 ∷ []) $
    regoal ! (λ (us : List Val). prop (WpFn 𝓤 H C Λ fn us Post)) (λ i. are.0.0 i ++ (are.1.0.0 i ++ [])) refl $
    enter ! C Λ fn (vptr place.0 place.1 ∷ vint w64 size ∷ []) Post $
    alloc_all ! (λ l. pass_all ! refl ((tt, tt), ((tt, record { fits = are.1.0.1 }), tt)) $ let E : Env 𝓤 𝓛.H =
    env fn.locals l in
    use2 𝓛 (raw ((Takes Y 𝓛 𝓜.mem 𝓡.returns).pre y)) (Takes-goes Y 𝓛 𝓜.mem 𝓡.returns κ q place handle
    (⊑_trans κ z.0.0.1.0 A.lives z.0.2.0 le) size 1 τ (chunk_size size asked) refl (omega arith) (lit< tt)) $
    calls_at ! (fm 𝓛 𝓜 𝓡) (Takes Y 𝓛 𝓜.mem 𝓡.returns) (met.allocate dd) y
    (and_then ! (get ! refl) (and_then ! (get ! refl) (and_then ! (lit ! tt) (no_more !)))) (λ v.
    use1 𝓛 (later (raw (Answered Y 𝓛 𝓜.mem 𝓡.returns handle τ v) ⊛ ‵ (flft κ q)))
    (Takes-gives Y 𝓛 𝓜.mem 𝓡.returns κ q place handle size 1 τ v) $ await ! tt $ split ! $
    answers Y ! 𝓜.mem 𝓡.returns handle τ v
    -- [the room; the right to free it; the tokens]
    (λ b o e.
    let p : Ptr = block_ptr b o in
    let made : (chunk.the_row (param 0 A) g).Denot = record {
      at = p;
      size = size;
      used = 0;
      marker = record {};
      alloc = handle;
      bytes = [];
      fits = (refl, omega arith, asked);
    } in
    let Good : Type 0 = (handle ≡ handle) × (size ≡ size) × ([] ≡ made.bytes) in
    use1 𝓛 (‵ (part_at (Array u8 0) full_share [] b o) ⊛ ‵ (froom (chunk_type (size - 0)) b (o + 0)))
    (nothing_written 𝓛 size b o) $ split ! $
    move ! (1 ∷ 2 ∷ []) $ fjoin ! $ move ! (1 ∷ 0 ∷ []) $ fjoin ! $ move ! (1 ∷ 2 ∷ []) $ join ! $ move !
    (1 ∷ []) $ lands_as ! (e) refl (tt, (record { fits = lit< tt }, (tt, tt))) $
    first ! $ switches_on ! (get_tag ! (vrt ! refl (fld ! refl (stop !))) (whole !)) $ exec ! C Λ E
    (arm_body 0 (head (after 1 fn.body))) (then_runs 𝓛 C Λ E (after 2 fn.body) (at_ret E Post)) $
    sets ! (of_opd ! (get_in ! (vrt ! refl (fld ! refl (stop !))) (in_variant ! 0 0 refl refl (whole !)))) refl (
      tt,
      tt,
    ) $
    sets ! (agg ! (no_more !)) refl (tt, tt) $
    sets ! (agg ! (and_then ! (get ! refl)
    (and_then ! (get ! refl) (and_then ! (lit ! tt) (and_then ! (get ! refl) (no_more !)))))) refl (
      tt,
      (tt, (record { fits = are.1.0.1 }, (record { fits = lit< tt }, (tt, tt)))),
    ) $
    sets_last ! (agg ! (and_then ! (lit ! tt) (and_then ! (get ! refl) (no_more !)))) refl (
      tt,
      (record { fits = lit< tt }, ((tt, (record { fits = are.1.0.1 }, (record { fits = lit< tt }, (tt, tt)))), tt)),
    ) $
    exec ! C Λ E (after 2 fn.body) (at_ret E Post) $
    sets ! (of_opd ! (get ! refl)) refl (
      tt,
      (record { fits = lit< tt }, ((tt, (record { fits = are.1.0.1 }, (record { fits = lit< tt }, (tt, tt)))), tt)),
    ) $
    returns ! (look_at ! 0 refl) $ free_all ! refl $
    use0 𝓛 (‵ (fields_own p size 0 (fields_val p size 0 ∷ []))) (fields_made 𝓛 p size 0 are.1.0.1 (lit< tt)) $ fjoin ! $
    use1 𝓛 {Γ = Tokens} (‵ (Out.own_val (Some made) (live 1 (vcons (fields_val p size 0) vnil) ∷ [])))
    (Some-of 𝓛 (chunk.the_row (param 0 A) g) made (fields_val p size 0)) $
    use0 𝓛 (raw (fact 𝓤 Good)) (fact_i 𝓤 Good (emp 𝓤) (refl, refl, refl)) $ nothing ! $ nothing ! $ fjoin ! $ nothing !
    $ fjoin ! $ move ! (3 ∷ 0 ∷ 2 ∷ 1 ∷ []) $
    by ! (leaves 𝓛 T hs c z (live 1 (vcons (fields_val p size 0) vnil)) (Some made) (tt, (tt, tt)) (tt, (tt, tt))))
    (λ e. join ! $ lands_as ! (e) refl (tt, (record { fits = lit< tt }, (tt, tt))) $
    first ! $ switches_on ! (get_tag ! (vrt ! refl (fld ! refl (stop !))) (whole !)) $ exec ! C Λ E
    (arm_body 1 (head (after 1 fn.body))) (then_runs 𝓛 C Λ E (after 2 fn.body) (at_ret E Post)) $
    sets_last ! (agg ! (and_then ! (lit ! tt) (no_more !))) refl (tt, (record { fits = lit< tt }, tt)) $
    exec ! C Λ E (after 2 fn.body) (at_ret E Post) $
    sets ! (of_opd ! (get ! refl)) refl (tt, (record { fits = lit< tt }, tt)) $
    returns ! (look_at ! 0 refl) $ free_all ! refl $
    use0 𝓛 (‵ (Out.own_val None (live 0 vnil ∷ []))) (none_of 𝓛 (chunk.the_row (param 0 A) g)) $ use0 𝓛
    (raw (fact 𝓤 (Unit {0}))) (fact_i 𝓤 (Unit {0}) (emp 𝓤) (tt)) $ nothing ! $ nothing ! $ fjoin ! $ nothing ! $
    fjoin ! $ move ! (3 ∷ 0 ∷ 2 ∷ 1 ∷ []) $
    by ! (leaves 𝓛 T hs c z (live 0 vnil) (None) (tt, (tt, tt)) (tt, (tt, tt)))))))))
