-- `write` copies the piece byte by byte behind the written bytes; each turn of its loop moves one byte from the room to
-- the written ones. Assumes `Logic`.
use Rattle.std.proofs.Common.{◌≡◌, ℕ, ◌+◌, ◌-◌, ◌^◌, ◌≤◌, ◌<◌, List, [], ◌∷◌, ◌++◌, length, take, get_or, refl, sym, ap}
use Rattle.std.proofs.Common.{subst, ◌∙◌, arith, lit<, nltb→le, w8, w64, length-append}
use Rattle.std.proofs.lemmas.List.{append-nil, append_assoc, take_more}
use mathlib.Core.WellFounded.InvImage
use lib.Dec.{ltb→lt}
use lib.WfN.{lt-wf_rel}
use seplogic.Ra.Ura.{Ura}
use base.Fraction.{full_share}
use base.Logic.{SProp, emp, never, fst∗}
use base.Fml.{Share, ftrue, fsep, fat, froom, flft, fobs, fauth, fobor}
use base.Stored.{Gv}
use mir.Syntax.{Fn, Body, Dict, named, ty_int}
use mir.MapTy.{inst_fn}
use mir.Val.{Val, vint, vptr, vunit}
use prog.Wp.{Env, Out, Wp, Tables, at_return, after_seq, after_block, after_turn}
use contract.BorrowLft.{◌⊑◌}
use contract.Monad.{fact, fact_i}
use contract.Running.{tables, tables_of}
use types.Logic.{Logic, sem}
use types.Kit.{Item, Sq, any_q, runs, ‵, raw, ◌⊛◌, at_ret, ◌$◌, ◌∵◌, !, qed, by, move, keep, drop, group, use0, use1}
use types.Kit.{use2, split, split3, join, rewrite, fsplit, fsplit3, fjoin, fjoin3, feq_i}
use types.Part.{whole, sub, look_in, store_in}
use types.Run.{stop, fld, hop, from, load, look, init, addr, lit, unit_lit, bin, of_opd, assigns, first, blocks}
use types.Run.{branches, skips, jumps, loops, again, Below, exec, returns, enter}
use types.ByLocal.{alloc_all, pass_all, free_all, look_at, look_in_at, get, get_in, through, sets, sets_last, env}
use types.ByLocal.{holding, forget_but, take_at, give_at}
use denote.Array.{Array}
use denote.Builtin.{u8, SliceRefOf}
use denote.Copied.{uint_Copied}
use denote.Exit.{yes}
use denote.Index.{row, place_byte, elem_out, elem_back, looks_slice, shuts_slice}
use denote.Laws.{Is, shows}
use denote.Memory.{cell_at, part_at, mem}
use denote.Opens.{Shut}
use types.SemTy.{Body as Borrowed}
use denote.Param.{param}
use denote.Plain.{uint_in, uint_vals, uint_Tells}
use denote.RattleType.{RattleType, owns}
use denote.RawPtr.{Ptr, block_ptr, null_ptr, room_for, in_a_block, ◌+ₚ◌}
use denote.Ref.{mut_vals, mut_Tells}
use denote.Signature.{plain, types_at}
use denote.Slice.{slice_val, shr_slice_vals, shr_slice_Tells}
use denote.Steps.{nothing, heard, opens, closes, peeks}
use denote.Triple.Walked.{Stays, stay_dropped, stay_ref, walk_of, Goes-dropped, Goes-ref}
use Rattle.core.proofs.alloc.Shapes.{after, head, inside}
use Rattle.core.proofs.ptr.Rows.{take_all}
use Rattle.std.proofs.raw_atomic.Walks.{proved, leaves}
use Rattle.sm_arena.proofs.Following.{args_of}
use Rattle.sm_arena.proofs.Fields.{fields_val, fields_own, fields_told, fields_made}
use Rattle.sm_arena.proofs.Rooms.{byte, spare, snoc}
use Rattle.sm_arena.specs.Ownership.{chunk_type, chunk_owns}
use Rattle.sm_arena.specs.contracts.chunk.Chunk as chunk
use Rattle.sm_arena.specs.contracts.chunk.Chunk.write.{ended, clauses}
use Rattle.sm_arena.specs.contracts.chunk.Chunk.write.Key.{name as #self}
use Rattle.sm_arena.proofs.chunk.Chunk.write.Statement.{statement}
use Rattle.sm_arena.proofs.chunk.Chunk.write.Code as compiled

module _ (A : RattleType) (d dd : Dict) where
  abbrev fn : Fn
  fn = inst_fn (args_of A d dd) compiled.function

  abbrev turn : Body
  turn = inside (inside (after 3 (inside (head (after 3 fn.body)))))

  -- The loop. The piece ys lies at (sb, so) and the chunk at (b, o), with the bytes xs written; F is all else that is
  -- owned.
  module _ {M : Type 1} {𝓤 : Ura M} (𝓛 : Logic 𝓤) (𝓣 : Tables 𝓤 𝓛.H) (l : ℕ → ℕ) (F : Item 𝓤) (p : Share)
      (rb ro sb so b o n used size : ℕ) (xs ys : List ℕ)
      (long : length ys ≡ n) (fits : n < 2 ^ 64) (room : used + n ≤ size) (Post : Val → SProp 𝓤) where
    open 𝓛 use {H}

    abbrev E : Env 𝓤 H
    E = env fn.locals l

    -- how many bytes have moved
    abbrev Moved : Type 0
    Moved = (i : ℕ) × (i ≤ n)

    abbrev Nearer : Moved → Moved → Type 0
    Nearer t u = n - t.0 < n - u.0

    abbrev written : ℕ → List ℕ → Item 𝓤
    written k zs = ‵ (part_at (Array u8 k) full_share zs b o)

    abbrev left : ℕ → Item 𝓤
    left k = ‵ (froom (chunk_type (size - k)) b (o + k))

    abbrev at_turn : ℕ → List (Item 𝓤)
    at_turn i = written (used + i) (xs ++ take i ys) ∷ left (used + i) ∷ ‵ (row u8 p ys sb so) ∷ F
        ∷ holding 𝓛 E ((1, vptr rb ro) ∷ (2, slice_val (sb, so) n) ∷ (3, vint w64 n) ∷ (4, vint w64 used) ∷ (
          5,
          vint w64 i,
        ) ∷ (6, vptr sb so) ∷ (7, vptr b (used + o)) ∷ [])

    abbrev Now : Moved → List (Item 𝓤)
    Now t = at_turn t.0

    abbrev Turned : Moved → Out → SProp 𝓤
    Turned t = after_turn 𝓤 H (Below 𝓛 Nearer Now t) (after_block 𝓤 H (after_block 𝓤 H
        (after_seq 𝓤 H (Wp 𝓤 H 𝓣.C 𝓣.Λ E (after 4 fn.body) (at_return 𝓤 H E Post)) (at_return 𝓤 H E Post))))

    -- the state at the end of the loop, except for the last test in local 9
    abbrev Done : List (Item 𝓤)
    Done = written (used + n) (xs ++ ys) ∷ left (used + n) ∷ ‵ (row u8 p ys sb so) ∷ F
        ∷ holding 𝓛 E ((1, vptr rb ro) ∷ (2, slice_val (sb, so) n) ∷ (3, vint w64 n) ∷ (4, vint w64 used) ∷ (
          5,
          vint w64 n,
        ) ∷ (6, vptr sb so) ∷ (7, vptr b (used + o)) ∷ [])

    module _ (ends : Sq 𝓛 Done (runs 𝓣.C 𝓣.Λ E (after 4 fn.body) (at_ret E Post))) where
      turns : (t : Moved) → Sq 𝓛 (Now t) (runs 𝓣.C 𝓣.Λ E turn (any_q (Turned t)))
      unfolding after_turn
      turns t =
          let i : ℕ = t.0 in
          let le = t.1 in
          sets ! (bin ! (get ! refl) (get ! refl) tt) refl (tt, tt) $ first ! $ branches ! (get ! refl)
          (λ less. let below : i < n = ltb→lt i n less in
          let y : ℕ = get_or ys i 0 in
          let here : used + i + o ≡ i + (used + o) = omega arith in
          let next : used + i + 1 ≡ used + (i + 1) = omega arith in
          let more : (xs ++ take i ys) ++ y ∷ [] ≡ xs ++ take (i + 1) ys = append_assoc xs (take i ys) (y ∷ [])
          ∙ ap (λ (zs : List ℕ). xs ++ zs) (sym (take_more ys i 0 (omega (arith, long, below)))) in
          skips ! $ exec ! 𝓣.C 𝓣.Λ E (after 2 turn) (any_q (Turned t)) $
          sets ! (bin ! (get ! refl) (get ! refl) tt) refl (tt, tt) $
          sets ! (bin ! (get ! refl) (get ! refl) tt) refl (tt, tt) $
          move ! (2 ∷ []) $ elem_out ! u8 (Is u8) (shows 𝓛 u8) (uint_vals w8) (uint_Tells w8) p ys i 0 sb so
          (omega (arith, long, below)) (λ is.
          rewrite ! 0 (λ (k : ℕ). ‵ (fat p byte sb k (vint w8 y))) (place_byte so i) refl $
          sets ! (of_opd ! (load ! (through ! refl (stop !)) (look ! 0 refl))) refl (tt, record { fits = is.1 }) $
          rewrite ! 0 (λ (k : ℕ). ‵ (fat p byte sb k (vint w8 y))) (sym (place_byte so i)) refl $
          elem_back ! u8 p ys i 0 (uint_vals w8 y) sb so (omega (arith, long, below)) $ move ! (2 ∷ []) $
          -- [the room; the piece; the written bytes; F]
          use1 𝓛
          (‵ (froom byte b (used + i + o)) ⊛ ‵ (froom (chunk_type (size - (used + i + 1))) b (o + (used + i + 1))))
          (spare 𝓛 size (used + i) b o (omega (arith, room, below))) $ split ! $
          rewrite ! 0 (λ (k : ℕ). ‵ (froom byte b k)) here refl $
          assigns ! (of_opd ! (get ! refl)) (through ! refl (stop !)) (init ! 0 refl (tt, record { fits = is.1 })) $
          use1 𝓛 (‵ (part_at u8 full_share y b (i + (used + o)))) (uint_in 𝓛 full_share w8 y b (i + (used + o))) $
          rewrite ! 0 (λ (k : ℕ). ‵ (part_at u8 full_share y b k)) (sym here) refl $ move ! (3 ∷ 0 ∷ []) $
          use2 𝓛 (written (used + i + 1) ((xs ++ take i ys) ++ y ∷ [])) (snoc 𝓛 (used + i) b o (xs ++ take i ys) y) $
          rewrite ! 0 (λ (zs : List ℕ). written (used + i + 1) zs) more refl $
          rewrite ! 0 (λ (k : ℕ). written k (xs ++ take (i + 1) ys)) next refl $
          rewrite ! 1 (λ (k : ℕ). left k) next refl $
          sets_last ! (bin ! (get ! refl) (lit ! tt) (record { fits = omega (arith, below, fits) })) refl (
            tt,
            record { fits = omega (arith, below, fits) },
          ) $
          forget_but ! E (1 ∷ 2 ∷ 3 ∷ 4 ∷ 5 ∷ 6 ∷ 7 ∷ []) refl $
          again ! Nearer Now t (i + 1, omega (arith, below)) (omega (arith, below))))
          (λ over. let all : i ≡ n = omega (arith, le, nltb→le i n over) in
          let whole : take i ys ≡ ys = subst (λ (k : ℕ). take k ys ≡ ys) (long ∙ sym all) (take_all ys) in
          jumps ! $ exec ! 𝓣.C 𝓣.Λ E (after 4 fn.body) (at_ret E Post) $ forget_but ! E
          (1 ∷ 2 ∷ 3 ∷ 4 ∷ 5 ∷ 6 ∷ 7 ∷ []) refl $
          rewrite ! 0 (λ (zs : List ℕ). written (used + i) (xs ++ zs)) whole refl $
          rewrite ! 0 (λ (k : ℕ). written (used + k) (xs ++ ys)) all refl $
          rewrite ! 1 (λ (k : ℕ). left (used + k)) all refl $
          take_at ! 5 $ rewrite ! 0
          (λ (k : ℕ). ‵ (fat full_share (ty_int w64) (l 5) 0 (vint w64 k))) all refl $ give_at ! 5 $ ends)

pub write_spec : {M : Type 1} → statement M
unfolding tables_of
write_spec 𝓤 𝓛 𝓜 𝓡 wired A L g d dd met md =
    let H = 𝓛.H in
    let T = ended A g d dd in
    let c = clauses A g d dd 𝓛 𝓜.mem 𝓡.returns in
    let R : RattleType = chunk.the_row (param 0 A) g in
    let P = SliceRefOf (1 ∷ []) tt (plain (λ _. u8)) (λ _. tt) in
    let hs : Stays T.signature.params T.kept = (stay_ref (0 ∷ []) tt (plain (λ _. R)), (stay_dropped P yes, tt)) in
    let W = walk_of 𝓛 T hs c in
    let 𝓣 : Tables 𝓤 𝓛.H = tables_of 𝓤 𝓛.H 𝓜 (tables 𝓤 𝓛.H 𝓜 𝓡 𝓡.env) in
    proved 𝓛 T hs c 𝓜 𝓡 (Goes-ref 𝓛 3 0 tt (plain (λ _. R)), (Goes-dropped 𝓛 3 P yes (λ κs x w. refl), tt))
    (#self (args_of A d dd)) (fn A d dd) (compiled.unfolded 𝓤 H 𝓜 𝓡 wired (A, tt) d dd)
    (λ κs. (mut_vals, (shr_slice_vals, tt)))
    (λ κs. (mut_Tells (named 0) κs.0 R, (shr_slice_Tells (named 1) κs.1.0 u8, tt))) (λ κs qs bounds a _ are.
    let y : W.Ghost = ((κs, qs, bounds, a, (mut_vals a.0, (shr_slice_vals a.1.0, tt))), tt) in
    let Post : Val → SProp 𝓤 = W.post y in
    let x = a.0.now in
    let ys = a.1.0.now in
    let n = length ys in
    let rb = a.0.ref_ptr.0 in
    let ro = a.0.ref_ptr.1 in
    let sb = a.1.0.ref_ptr.0 in
    let so = a.1.0.ref_ptr.1 in
    let right = g.dealloc_token x.alloc in
    let Asked : Type 0 = length x.bytes + n ≤ x.size in
    qed 𝓛 (((‵ (flft κs.0 qs.0) ⊛ ‵ (flft κs.1.0 qs.1.0) ⊛ ‵ (flft κs.1.1.0 qs.1.1.0) ⊛ ‵ ftrue) ⊛ ‵ (owns
    (types_at T.signature.params κs) a y.0.4)) ∷ (raw (fact 𝓤 (κs.1.1.0 ⊑ A.lives)) ⊛ raw (fact 𝓤 Asked)) ∷ []) ∵
    move ! (1 ∷ []) $ split ! $ drop ! $ heard ! Asked (λ asked. split ! $ split3 ! $ move !
    (3 ∷ []) $ fsplit ! $ fsplit3 ! $ move ! (3 ∷ []) $ fsplit ! $ fsplit ! $ keep ! (4 ∷ 5 ∷ 6 ∷ 1 ∷ 7 ∷ 8 ∷ []) $
    -- [two parts of the `&mut`; its token; the piece, lent; its token; the other token]
    let fits : n < 2 ^ 64 = are.1.0.0.1.0 in
    enter ! 𝓣.C 𝓣.Λ (fn A d dd) (vptr rb ro ∷ slice_val (sb, so) n ∷ []) Post $
    alloc_all ! (λ l. pass_all ! refl ((tt, tt), ((tt, (tt, (record { fits = fits }, tt))), tt)) $ let E : Env 𝓤 H =
    env (fn A d dd).locals l in
    sets ! (of_opd ! (get_in ! (fld ! refl (stop !)) (sub ! 1 refl (whole !)))) refl (tt, record { fits = fits }) $
    opens ! tt R {h = x} rb ro (λ us. move ! (1 ∷ []) $ peeks ! R (Is R) (shows 𝓛 R) x us (λ is. fsplit ! $ drop ! $
    let told = fields_told x.at x.size x.used us is.0 in
    in_a_block ! x.at (λ r. chunk_owns right r x.size x.used x.bytes)
    (fst∗ 𝓤 (never 𝓤) (sem 𝓛 (fsep (room_for (chunk_type (x.size - x.used)) (null_ptr +ₚ x.used))
    (right (chunk_type x.size) null_ptr)))) (λ b o placed.
    let held : Val = fields_val (block_ptr b o) x.size x.used in
    let Cell : Val → Item 𝓤 = λ v. ‵ (cell_at full_share R.mir (v ∷ []) rb ro) in
    rewrite ! 1 (λ (ws : List Val). ‵ (cell_at full_share R.mir ws rb ro))
    (told.0 ∙ ap (λ (r : Ptr). fields_val r x.size x.used ∷ []) placed) refl $
    fsplit ! $ move ! (1 ∷ []) $ fsplit ! $ move ! (7 ∷ 8 ∷ []) $
    -- [the piece, lent; its token; the room; the right to free; the written bytes; the cell; the open borrow in three
    -- entries; the other token]
    looks_slice ! tt u8 (uint_Copied 𝓛 w8) ys sb so (λ p. move ! (2 ∷ []) $ drop ! $
    -- [the piece; its way back; the room; the right to free; the written bytes; the cell; the open borrow in three
    -- entries; the other token]
    sets ! (of_opd ! (load ! (through ! refl (fld ! refl (stop !))) (look_in ! 5 (sub ! 2 refl (whole !))))) refl (
      tt,
      record { fits = told.2 },
    ) $
    sets ! (of_opd ! (lit ! tt)) refl (tt, record { fits = lit< tt }) $
    first ! $ blocks ! $
    sets ! (addr ! (from ! (fld ! refl (hop ! (look_in_at ! 2 (sub ! 0 refl (whole !))) (stop !))))) refl (tt, tt) $
    sets ! (of_opd ! (load ! (through ! refl (fld ! refl (stop !))) (look_in ! 5 (sub ! 0 refl (whole !))))) refl (
      tt,
      tt,
    ) $
    sets ! (bin ! (get ! refl) (get ! refl) tt) refl (tt, tt) $ blocks ! $
    move ! (1 ∷ 3 ∷ 5 ∷ 6 ∷ 7 ∷ 8 ∷ 9 ∷ []) $ group ! 7 $ move ! (3 ∷ 2 ∷ 1 ∷ 0 ∷ []) $
    let γ = a.0.ghost_name in
    let old : Gv = R.coded.code x in
    let rest : Item 𝓤 = ‵ (flft κs.1.1.0 qs.1.1.0) ⊛ ‵ ftrue in
    let F : Item 𝓤 = Shut 𝓛 κs.1.0 qs.1.0 (row u8 p ys sb so) ⊛ ‵ (right (chunk_type x.size) (block_ptr b o)) ⊛ Cell
    held ⊛ ‵ (fobor κs.0 qs.0 (Borrowed (mem R) rb ro γ)) ⊛ ‵ (fobs γ old) ⊛ ‵ (fauth γ old) ⊛ rest in
    let start : x.used ≡ x.used + 0 = omega arith in
    let room : x.used + n ≤ x.size = omega (arith, x.fits.0, asked) in
    let used : ℕ = x.used + n in
    let small : used < 2 ^ 64 = omega (arith, room, x.fits.2) in
    let new : R.Denot = record {
      at = x.at;
      size = x.size;
      used = used;
      marker = x.marker;
      alloc = x.alloc;
      bytes = x.bytes ++ ys;
      fits = (omega (arith, x.fits.0, length-append x.bytes ys), room, x.fits.2);
    } in
    let Same : Type 0 = (x.size ≡ new.size) × (x.alloc ≡ new.alloc) in
    let Bytes : Type 0 = x.bytes ++ ys ≡ new.bytes in
    let ends : Sq 𝓛 (Done A d dd 𝓛 𝓣 l F p rb ro sb so b o n x.used x.size x.bytes ys refl fits room Post)
    (runs 𝓣.C 𝓣.Λ E (after 4 (fn A d dd).body) (at_ret E Post)) =
    move ! (3 ∷ []) $ split3 ! $ move ! (2 ∷ []) $ split3 ! $ move ! (2 ∷ []) $ split3 ! $
    -- [two parts of the open borrow; the other token; the cell; the third part; the piece's way back; the right to
    -- free; the written bytes; the room; the piece]
    sets ! (bin ! (get ! refl) (get ! refl) (record { fits = small })) refl (tt, record { fits = small }) $
    assigns ! (of_opd ! (get ! refl)) (through ! refl (fld ! refl (stop !)))
    (store_in ! 3 (sub ! 2 refl (whole !)) (tt, record { fits = small })) $
    sets ! (of_opd ! (unit_lit !)) refl (tt, tt) $
    move ! (9 ∷ 5 ∷ []) $ shuts_slice ! tt u8 p ys sb so $
    move ! (8 ∷ 6 ∷ []) $ fjoin ! $ move ! (7 ∷ 0 ∷ []) $ fjoin ! $ rewrite ! 0
    (λ (r : Ptr). ‵ (chunk_owns right r x.size used (x.bytes ++ ys))) (sym placed) refl $
    use0 𝓛 (‵ (fields_own x.at x.size used (fields_val x.at x.size used ∷ [])))
    (fields_made 𝓛 x.at x.size used told.1 small) $ fjoin ! $
    rewrite ! 5 (λ (r : Ptr). Cell (fields_val r x.size used)) (sym placed) refl $
    move ! (5 ∷ 0 ∷ 6 ∷ 2 ∷ 3 ∷ []) $ closes ! tt R new (fields_val x.at x.size used ∷ []) rb ro $
    -- [two parts of the `&mut`; the tokens]
    returns ! (look_at ! 0 refl) $ free_all ! refl $
    feq_i ! (List Val) (vptr rb ro ∷ []) (vptr rb ro ∷ []) refl $ fjoin3 ! $ nothing ! $ nothing ! $ fjoin ! $ move !
    (1 ∷ 0 ∷ []) $ fjoin ! $
    move ! (2 ∷ 3 ∷ []) $ join ! $ move ! (2 ∷ 0 ∷ []) $ join ! $ feq_i ! (List Val) (vunit ∷ []) (vunit ∷ []) refl $
    use0 𝓛 (raw (fact 𝓤 Same)) (fact_i 𝓤 Same (emp 𝓤) (refl, refl)) $ use0 𝓛 (raw (fact 𝓤 Bytes))
    (fact_i 𝓤 Bytes (emp 𝓤) refl) $ join ! $ move ! (2 ∷ 3 ∷ 1 ∷ 0 ∷ []) $
    by ! (leaves 𝓛 T hs c y vunit tt (new, (tt, tt)) (tt, (tt, tt))) in
    rewrite ! 0 (λ (k : ℕ). ‵ (part_at (Array u8 k) full_share x.bytes b o)) start refl $
    rewrite ! 0 (λ (zs : List ℕ). ‵ (part_at (Array u8 (x.used + 0)) full_share zs b o))
    (sym (append-nil x.bytes)) refl $
    rewrite ! 1 (λ (k : ℕ). ‵ (froom (chunk_type (x.size - k)) b (o + k))) start refl $
    forget_but ! E (1 ∷ 2 ∷ 3 ∷ 4 ∷ 5 ∷ 6 ∷ 7 ∷ []) refl $
    loops ! 𝓣 (Nearer A d dd 𝓛 𝓣 l F p rb ro sb so b o n x.used x.size x.bytes ys refl fits room Post)
    (InvImage.wf (λ (t : Moved A d dd 𝓛 𝓣 l F p rb ro sb so b o n x.used x.size x.bytes ys refl fits room Post). n -
    t.0) lt-wf_rel.wf)
    (Now A d dd 𝓛 𝓣 l F p rb ro sb so b o n x.used x.size x.bytes ys refl fits room Post)
    (turns A d dd 𝓛 𝓣 l F p rb ro sb so b o n x.used x.size x.bytes ys refl fits room Post ends) (0, omega arith))))))))
