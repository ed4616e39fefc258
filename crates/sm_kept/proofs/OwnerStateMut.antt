-- The effect of `state_mut` of an owner, by its code: it lends the state, and its owner follows.
use mathlib.Core.Path.{◌≡◌, refl, sym}
use Prim.Native.Nat.{ℕ}
use mathlib.Core.List.{List, [], ◌∷◌}
use seplogic.Ra.Ura.{Ura}
use base.Fraction.{full_share}
use base.Fml.{GName, Fml, ftrue, fsep, flft}
use base.Logic.{ent, sep, id⊢}
use mir.Syntax.{Callee, Fn, addr_of, assign, block, copy, deref, erased, field, local, mut, named, place, return}
use mir.Syntax.{rv_opd, seq, ty_ptr, ty_ref, value_local}
use mir.Val.{Val, vptr}
use mir.Raw.{raw as bare}
use prog.Model.{Model}
use prog.Wp.{Closed}
use contract.Monad.{fact}
use contract.Running.{Running, tables}
use types.Logic.{Logic, sem}
use types.Kit.{‵, raw, ◌⊛◌, some, later, at_ret, ◌$◌, ◌∵◌, !, qed, move, keep, drop, use1, split, join, fsplit, fsplit3}
use types.Kit.{fjoin, fpack, pick, await, rewrite, suffices, frame, group, done}
use types.Part.{whole, sub, look_in}
use types.Run.{stop, fld, load, of_opd, addr, first, blocks, exec, returns, enter}
use types.ByLocal.{alloc_all, pass_all, free_all, look_at, get, through, sets, sets_last, env}
use denote.Builtin.{RefMutOf}
use denote.Exit.{no}
use denote.Follow.{follows, Part, lends_Part}
use denote.Memory.{part_at, mem, cell_at, part_of}
use denote.Param.{layout}
use denote.RawPtr.{block_ptr}
use denote.Ref.{MutBor, MutRef, mut_vals, mut_Tells}
use denote.Signature.{plain, mut_ref_to}
use denote.Steps.{nothing, opens, heard}
use denote.Triple.Clauses.{Clauses, Ended, closing}
use denote.Triple.Spec.{Meets}
use denote.Triple.Walked.{says, Stays, stay_dropped, walk_of, ends_at, Goes-spent_ref}
use Rattle.core.proofs.alloc.Calls.{token}
use Rattle.std.proofs.raw_atomic.Walks.{proved}
use Rattle.std.specs.Global.{Global}
use Rattle.std.specs.Prelude.{Some, Option, is_some, true}
use Rattle.std_alloc.proofs.BoxSteps.Form.{D, R, B, τ, word, handle}
use Rattle.std_alloc.proofs.BoxSteps.Steps.{box_out, box_in}
use Rattle.std_alloc.proofs.VecSteps.Shapes.{after}
use Rattle.sm_kept.proofs.Owner.{Owner, X, E, H, Kept, owned, some_of, state_of}

module _ (O : Owner) where
  abbrev pub code : Fn
  code = record {
    lifetimes = 1;
    outlives = [];
    ty_params = [];
    givens = 0;
    params = 1;
    locals = local (ty_ref (named 0) mut (X O).written.ty) value_local
        ∷ local (ty_ref (named 0) mut (H O).written.ty) value_local
        ∷ local (ty_ref erased mut (X O).written.ty) value_local
        ∷ local ty_ptr value_local ∷ local ty_ptr value_local ∷ [];
    body = seq (block (seq (assign (place 3 []) (rv_opd (copy (place 1 (deref (layout (H O)) ∷ field 0 ∷ [])))))
        (seq (assign (place 4 []) (rv_opd (copy (place 3 []))))
        (assign (place 2 []) (addr_of (place 4 (deref (layout (X O)) ∷ [])))))))
        (seq (assign (place 0 []) (rv_opd (copy (place 2 [])))) return);
  }

  -- the owner of this state in place of its own
  abbrev pub owning : O.D → (X O).Denot → O.D
  owning h w = O.made ((O.parts h).0, ((O.parts h).1.0, Some w))

  abbrev pub ended : Ended
  ended = record {
    signature = record {
      lifetimes = 1;
      outlives = [];
      params = RefMutOf (0 ∷ []) tt (plain (λ _. H O)) (λ _. tt) ∷ [];
      result = RefMutOf (0 ∷ []) tt (plain (λ _. X O)) (λ _. tt);
    };
    kept = (no, tt);
  }

  abbrev pub clauses : {M : Type 1} {𝓤 : Ura M} (𝓛 : Logic 𝓤) → Clauses 𝓤 ended
  clauses {𝓤 = 𝓤} 𝓛 κs a = record {
    ghost = Unit {0};
    requires = λ _. fact 𝓤 (is_some (state_of O a.0.now) ≡ true);
    ensures = λ _ r _. sep 𝓤 (sem 𝓛 (follows (H O) (X O) a.0.ghost_name r.ghost_name (owning a.0.now)))
        (fact 𝓤 (state_of O a.0.now ≡ Some r.now));
  }

  abbrev stayed : Stays ended.signature.params ended.kept
  stayed = (stay_dropped (mut_ref_to (0 ∷ []) tt (plain (λ _. H O))) no, tt)

  module _ {M : Type 1} {𝓤 : Ura M} (𝓛 : Logic 𝓤) (h : O.D) (rb ro : ℕ) (b o : ℕ) (hv : Val) where
    abbrev alloc : Global
    alloc = (O.parts h).1.0

    -- all but the state
    abbrev Rest : Fml
    Rest = fsep (fsep (token (E O).al alloc (bare (τ (E O))) (block_ptr b o)) (handle (E O) alloc hv))
        (cell_at full_share (H O).mir (word (E O) hv b o ∷ []) rb ro)

    back : (O.parts h).0 ≡ block_ptr b o → (w : (X O).Denot)
        → ent 𝓤 (sep 𝓤 (sem 𝓛 ((mem (X O)).own_at w b o)) (sem 𝓛 Rest))
        (sem 𝓛 ((mem (H O)).own_at (owning h w) rb ro))
    unfolding part_of
    back at_b w =
        let made : D (E O) = record { ptr = (O.parts h).0; alloc = alloc; value = w } in
        let t : Kept O = ((O.parts h).0, (alloc, Some w)) in let us = word (E O) hv b o ∷ [] in
        qed 𝓛 (‵ (part_at (R (E O)) full_share w b o) ∷ ‵ Rest ∷ []) ∵ move ! (1 ∷ []) $ fsplit ! $ fsplit ! $
        move ! (3 ∷ []) $ box_in (E O) ! made b o w at_b refl $
        use1 𝓛 (‵ (owned O t us)) (id⊢ 𝓤 _) $
        rewrite ! 0 (λ (s : Kept O). ‵ (owned O s us)) (sym (O.parts_made t)) refl $
        move ! (1 ∷ 0 ∷ []) $ fjoin ! $
        fpack ! (List Val) (λ us. fsep (cell_at full_share (H O).mir us rb ro) ((H O).own_val (owning h w) us)) us $
        done !

pub state_mut_meets : (O : Owner) {M : Type 1} (𝓤 : Ura M) (𝓛 : Logic 𝓤) (𝓜 : Model 𝓤 𝓛.H) (𝓡 : Running 𝓤 𝓛.H 𝓜)
    → let 𝓣 = tables 𝓤 𝓛.H 𝓜 𝓡 𝓡.env in (k : Callee) → Closed 𝓤 𝓛.H 𝓣.C 𝓣.Λ k (code O)
    → Meets 𝓛 (ended O).signature (𝓣.C k) (closing 𝓛 (ended O) (clauses O 𝓛))
state_mut_meets O 𝓤 𝓛 𝓜 𝓡 k closed =
    let c = clauses O 𝓛 in let 𝓣 = tables 𝓤 𝓛.H 𝓜 𝓡 𝓡.env in let HRow = H O in let SRow = X O in
    proved 𝓛 (ended O) (stayed O) c 𝓜 𝓡 (Goes-spent_ref 𝓛 1 (0 ∷ []) tt (plain (λ _. HRow)), tt) k (code O) closed
    (λ κs. (mut_vals, tt)) (λ κs. (mut_Tells (named 0) κs.0 HRow, tt)) (λ κs qs bounds a g are.
    let κ = κs.0 in let q = qs.0 in let h = a.0.now in let t = O.parts h in let γ = a.0.ghost_name in
    let vs = mut_vals a.0 in let rb = a.0.ref_ptr.0 in let ro = a.0.ref_ptr.1 in
    let y : (walk_of 𝓛 (ended O) (stayed O) c).Ghost = ((κs, qs, bounds, a, (vs, tt)), g) in
    let Post = (walk_of 𝓛 (ended O) (stayed O) c).post y in
    let code_of = HRow.coded.code h in
    qed 𝓛 (((‵ (flft κ q) ⊛ ‵ ftrue) ⊛ ‵ ((MutRef (named 0) κ HRow).own_val a.0 vs) ⊛ ‵ ftrue)
    ∷ raw (fact 𝓤 (is_some t.1.1 ≡ true)) ∷ []) ∵
    move ! (1 ∷ []) $ heard ! _ (λ is. let found = some_of t.1.1 is in let x = found.0 in let es = found.1 in
    let v : D (E O) = record { ptr = t.0; alloc = t.1.0; value = x } in
    split ! $ split ! $ move ! (2 ∷ []) $ split ! $ keep ! (0 ∷ 2 ∷ []) $
    enter ! _ _ _ _ _ $ alloc_all ! (λ l. pass_all ! refl ((tt, tt), tt) $
    fsplit3 ! $ drop ! $ opens ! tt HRow rb ro (λ us. move ! (1 ∷ []) $
    rewrite ! 0 (λ (s : Option SRow.Denot). ‵ (owned O (t.0, (t.1.0, s)) us)) es refl $
    use1 𝓛 (‵ ((B (E O)).own_val v us)) (id⊢ 𝓤 _) $
    box_out (E O) ! v us (λ b o hv e ws fa. move ! (1 ∷ 2 ∷ []) $ fjoin ! $ move ! (1 ∷ []) $
    rewrite ! 2 (λ (vals : List Val). ‵ (cell_at full_share HRow.mir vals rb ro)) ws refl $
    -- [the state; the token with the allocator; the owner's cell; the open borrow, in three entries]
    first ! $ blocks ! $
    sets ! (of_opd ! (load ! (through ! refl (fld ! refl (stop !))) (look_in ! 2 (sub ! 0 refl (whole !))))) refl (
      tt,
      tt,
    ) $
    sets ! (of_opd ! (get ! refl)) refl (tt, tt) $
    sets_last ! (addr ! (through ! refl (stop !))) refl (tt, tt) $
    exec ! 𝓣.C 𝓣.Λ (env (code O).locals l) (after 1 (code O).body) (at_ret _ Post) $
    sets ! (of_opd ! (get ! refl)) refl (tt, tt) $
    move ! (1 ∷ 2 ∷ []) $ fjoin ! $ move ! (2 ∷ 3 ∷ 4 ∷ 1 ∷ 0 ∷ []) $ group ! 5 $
    let way = back O 𝓛 h rb ro b o hv e in let left = sem 𝓛 (Rest O 𝓛 h rb ro b o hv) in
    use1 𝓛
    (later (some (λ (δ : GName). raw (Part 𝓛 HRow SRow (owning O h) (named 0) κ q rb ro b o γ left way x δ))))
    (lends_Part 𝓛 HRow SRow (owning O h) (named 0) κ q rb ro b o γ left way code_of code_of x) $
    await ! tt $ pick ! (λ δ. returns ! (look_at ! 0 refl) $ free_all ! refl $ keep ! (0 ∷ []) $
    let r : MutBor SRow.Denot = record { ref_ptr = (b, o); ghost_name = δ; now = x } in
    use1 𝓛 (‵ ((MutRef (named 0) κ SRow).own_val r (vptr b o ∷ [])) ⊛ ‵ (flft κ q)
    ⊛ ‵ (follows HRow SRow γ δ (owning O h))) (id⊢ 𝓤 _) $ split ! $ move ! (1 ∷ []) $ split ! $ move !
    (2 ∷ 0 ∷ 1 ∷ []) $
    suffices ! _ (ends_at 𝓛 (ended O) (stayed O) c y (vptr b o) r (tt, tt) (tt, tt)) $
    nothing ! $ nothing ! $ fjoin ! $ join ! $ nothing ! $ move ! (2 ∷ 0 ∷ []) $ join ! $ join ! $ frame ! $ says ! es $
    done !))))))
