-- The effect of `into_parts` of an owner, by its code: it moves two fields, and everything that they own goes with
-- them.
use mathlib.Core.Path.{◌≡◌, refl, sym, subst}
use mathlib.Core.List.{List, [], ◌∷◌, ◌++◌}
use seplogic.Ra.Ura.{Ura}
use mir.Syntax.{Callee, Fn, local, value_local}
use mir.Val.{Val}
use base.Logic.{ent, id⊢}
use base.Fml.{ftrue, fsep}
use prog.Model.{Model}
use prog.Wp.{Calls, Closed, Loops, WpFn}
use types.Logic.{Logic}
use contract.Monad.{fact}
use contract.Running.{Running, tables}
use types.Kit.{Item, ‵, raw, ◌⊛◌, rewrite, ◌$◌, ◌∵◌, !, qed, by, move, drop, use1, join, split, fsplit, fjoin}
use types.Kit.{suffices, done}
use types.Part.{whole, sub, agg}
use types.Run.{stop, fld, no_more, and_then, of_opd, returns, enter}
use types.ByLocal.{alloc_all, pass_all, free_all, look_at, get, get_in, sets}
use denote.Exit.{yes}
use denote.Param.{layout}
use denote.Signature.{plain}
use denote.Steps.{nothing, heard}
use denote.Triple.Clauses.{Clauses, Ended, closing}
use denote.Triple.Spec.{Meets}
use denote.Triple.Walked.{says, Stays, stay_dropped, walk_of, ends_at, Goes-dropped}
use Rattle.std.proofs.raw_atomic.Walks.{proved_at}
use Rattle.std.specs.Prelude.{Option, Some, is_some, true}
use Rattle.std_alloc.proofs.BoxSteps.Form.{D, B, word, box_typed}
use Rattle.std_alloc.proofs.BoxSteps.Steps.{box_out, box_in}
use Rattle.sm_kept.proofs.Owner.{Owner, X, E, H, Parts, moved, moves, owned, some_of, state_of}

module _ (O : Owner) where
  abbrev pub code : Fn
  code = record {
    lifetimes = 0;
    outlives = [];
    ty_params = [];
    givens = 0;
    params = 1;
    locals = local (layout (Parts O)) value_local ∷ local (layout (H O)) value_local ∷ moved;
    body = moves;
  }

  abbrev pub ended : Ended
  ended = record {
    signature = record {
      lifetimes = 0;
      outlives = [];
      params = plain (λ _. H O) ∷ [];
      result = plain (λ _. Parts O);
    };
    kept = (yes, tt);
  }

  abbrev pub clauses : {M : Type 1} (𝓤 : Ura M) → Clauses 𝓤 ended
  clauses 𝓤 κs a = record {
    ghost = Unit {0};
    requires = λ _. fact 𝓤 (is_some (state_of O a.0) ≡ true);
    ensures = λ _ r _. fact 𝓤 (state_of O a.0 ≡ Some r.value);
  }

  abbrev stayed : Stays ended.signature.params ended.kept
  stayed = (stay_dropped (plain (λ _. H O)) yes, tt)

  module _ {M : Type 1} {𝓤 : Ura M} (𝓛 : Logic 𝓤) (C : Calls 𝓤 𝓛.H) (Λ : Loops 𝓤 𝓛.H) where
    walk : (z : (walk_of 𝓛 ended stayed (clauses 𝓤)).Ghost)
        → ent 𝓤 ((walk_of 𝓛 ended stayed (clauses 𝓤)).pre z) (WpFn 𝓤 𝓛.H C Λ code
        (z.0.4.0 ++ []) ((walk_of 𝓛 ended stayed (clauses 𝓤)).post z))
    walk z =
        let Post = (walk_of 𝓛 ended stayed (clauses 𝓤)).post z in
        let h : O.D = z.0.3.0 in let us = z.0.4.0 in let t = O.parts h in
        qed 𝓛 ((‵ ftrue ⊛ ‵ (fsep (owned O t us) ftrue)) ∷ raw (fact 𝓤 (is_some t.1.1 ≡ true)) ∷ []) ∵
        move ! (1 ∷ []) $
        heard ! (is_some t.1.1 ≡ true) (λ is. let found = some_of t.1.1 is in let es = found.1 in
        let v : D (E O) = record { ptr = t.0; alloc = t.1.0; value = found.0 } in
        let made : (Parts O).Denot = record { ptr = v.ptr; alloc = v.alloc; value = v.value } in
        split ! $ drop ! $ fsplit ! $
        rewrite ! 0 (λ (s : Option (X O).Denot). ‵ (owned O (t.0, (t.1.0, s)) us)) es refl $
        use1 𝓛 (‵ ((B (E O)).own_val v us)) (id⊢ 𝓤 _) $
        box_out (E O) ! v us (λ b o hv e ws fa. box_in (E O) ! v b o v.value e refl $
        let w = word (E O) hv b o in
        use1 𝓛 (‵ ((Parts O).own_val made (w ∷ []))) (id⊢ 𝓤 _) $ move ! (1 ∷ 2 ∷ []) $ drop ! $ drop ! $
        let Γ : List (Item 𝓤) = ‵ ((Parts O).own_val made (w ∷ [])) ∷ [] in
        by ! (subst (λ (us : List Val). ent 𝓤 (types.Kit.⋆ 𝓛 Γ) (WpFn 𝓤 𝓛.H C Λ code (us ++ []) Post)) (sym ws)
        (qed 𝓛 Γ ∵ enter ! C Λ code (w ∷ []) _ $
        alloc_all ! (λ ls. pass_all ! refl (box_typed (E O) hv b o fa, tt) $
        sets ! (of_opd ! (get_in ! (fld ! refl (stop !)) (sub ! 0 refl (whole !)))) refl (tt, tt) $
        sets ! (of_opd ! (get_in ! (fld ! refl (stop !)) (sub ! 1 refl (whole !)))) refl fa $
        sets ! (of_opd ! (get ! refl)) refl (tt, tt) $
        sets ! (agg ! (and_then ! (get ! refl) (and_then ! (get ! refl) (no_more !)))) refl
        (box_typed (E O) hv b o fa) $ returns ! (look_at ! 0 refl) $ free_all ! refl $
        suffices ! _ (ends_at 𝓛 ended stayed (clauses 𝓤) z w made (tt, tt) (tt, tt)) $ says ! es $
        nothing ! $ nothing ! $ fjoin ! $ join ! $ nothing ! $ join ! $ done !)))))

pub into_parts_meets : (O : Owner) {M : Type 1} (𝓤 : Ura M) (𝓛 : Logic 𝓤) (𝓜 : Model 𝓤 𝓛.H) (𝓡 : Running 𝓤 𝓛.H 𝓜)
    → let 𝓣 = tables 𝓤 𝓛.H 𝓜 𝓡 𝓡.env in (k : Callee) → Closed 𝓤 𝓛.H 𝓣.C 𝓣.Λ k (code O)
    → Meets 𝓛 (ended O).signature (𝓣.C k) (closing 𝓛 (ended O) (clauses O 𝓤))
into_parts_meets O 𝓤 𝓛 𝓜 𝓡 k closed =
    let 𝓣 = tables 𝓤 𝓛.H 𝓜 𝓡 𝓡.env in
    proved_at 𝓛 (ended O) (stayed O) (clauses O 𝓤) 𝓜 𝓡 (
      Goes-dropped 𝓛 0 (plain (λ _. H O)) yes (λ κs x f. refl),
      tt,
    ) k (code O) closed (λ z are. walk O 𝓛 𝓣.C 𝓣.Λ z)
