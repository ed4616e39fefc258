-- The effect of `of_parts` of an owner, by its code: it moves two fields, and everything that they own goes with them.
use mathlib.Core.Path.{◌≡◌, ap, refl, sym, subst}
use mathlib.Core.List.{List, [], ◌∷◌, ◌++◌}
use seplogic.Ra.Ura.{Ura}
use mir.Syntax.{Callee, Fn, local, value_local}
use mir.Val.{Val}
use base.Logic.{ent, emp, id⊢}
use base.Fml.{ftrue, fsep}
use prog.Model.{Model}
use prog.Wp.{Calls, Closed, Loops, WpFn}
use types.Logic.{Logic}
use contract.Monad.{fact}
use contract.Running.{Running, tables}
use types.Kit.{Item, ‵, raw, ◌⊛◌, rewrite, ◌$◌, ◌∵◌, !, qed, by, move, drop, use1, join, split, fsplit, fjoin}
use types.Kit.{suffices, done}
use types.Part.{whole, sub, agg}
use types.Run.{stop, fld, no_more, and_then, of_opd, returns, enter}
use types.ByLocal.{alloc_all, pass_all, free_all, look_at, get, get_in, sets}
use denote.Exit.{yes}
use denote.Param.{layout}
use denote.Signature.{plain}
use denote.Steps.{nothing}
use denote.Triple.Clauses.{Clauses, Ended, closing}
use denote.Triple.Spec.{Meets}
use denote.Triple.Walked.{says, Stays, stay_dropped, walk_of, ends_at, Goes-dropped}
use Rattle.std.proofs.raw_atomic.Walks.{proved_at}
use Rattle.std.specs.Prelude.{Some}
use Rattle.std_alloc.proofs.BoxSteps.Form.{D, B, word, box_typed}
use Rattle.std_alloc.proofs.BoxSteps.Steps.{box_out, box_in}
use Rattle.sm_kept.proofs.Owner.{Owner, E, H, Kept, Parts, moved, moves, owned, state_of}

module _ (O : Owner) where
  abbrev pub code : Fn
  code = record {
    lifetimes = 0;
    outlives = [];
    ty_params = [];
    givens = 0;
    params = 1;
    locals = local (layout (H O)) value_local ∷ local (layout (Parts O)) value_local ∷ moved;
    body = moves;
  }

  abbrev pub ended : Ended
  ended = record {
    signature = record {
      lifetimes = 0;
      outlives = [];
      params = plain (λ _. Parts O) ∷ [];
      result = plain (λ _. H O);
    };
    kept = (yes, tt);
  }

  abbrev pub clauses : {M : Type 1} (𝓤 : Ura M) → Clauses 𝓤 ended
  clauses 𝓤 κs a = record {
    ghost = Unit {0};
    requires = λ _. emp 𝓤;
    ensures = λ _ r _. fact 𝓤 (state_of O r ≡ Some a.0.value);
  }

  abbrev stayed : Stays ended.signature.params ended.kept
  stayed = (stay_dropped (plain (λ _. Parts O)) yes, tt)

  module _ {M : Type 1} {𝓤 : Ura M} (𝓛 : Logic 𝓤) (C : Calls 𝓤 𝓛.H) (Λ : Loops 𝓤 𝓛.H) where
    walk : (z : (walk_of 𝓛 ended stayed (clauses 𝓤)).Ghost)
        → ent 𝓤 ((walk_of 𝓛 ended stayed (clauses 𝓤)).pre z) (WpFn 𝓤 𝓛.H C Λ code
        (z.0.4.0 ++ []) ((walk_of 𝓛 ended stayed (clauses 𝓤)).post z))
    walk z =
        let Post = (walk_of 𝓛 ended stayed (clauses 𝓤)).post z in
        let us = z.0.4.0 in
        let v : D (E O) = record { ptr = z.0.3.0.ptr; alloc = z.0.3.0.alloc; value = z.0.3.0.value } in
        let t : Kept O = (v.ptr, (v.alloc, Some v.value)) in let back = O.parts_made t in
        qed 𝓛 ((‵ ftrue ⊛ ‵ (fsep ((B (E O)).own_val v us) ftrue)) ∷ raw (emp 𝓤) ∷ []) ∵ split ! $ drop ! $ fsplit ! $
        box_out (E O) ! v us (λ b o hv e ws fa. box_in (E O) ! v b o v.value e refl $
        let w = word (E O) hv b o in
        use1 𝓛 (‵ (owned O t (w ∷ []))) (id⊢ 𝓤 _) $
        rewrite ! 0 (λ (s : Kept O). ‵ (owned O s (w ∷ []))) (sym back) refl $
        move ! (1 ∷ 2 ∷ []) $ drop ! $ drop ! $
        let Γ : List (Item 𝓤) = ‵ ((H O).own_val (O.made t) (w ∷ [])) ∷ [] in
        by ! (subst (λ (us : List Val). ent 𝓤 (types.Kit.⋆ 𝓛 Γ) (WpFn 𝓤 𝓛.H C Λ code (us ++ []) Post)) (sym ws)
        (qed 𝓛 Γ ∵ enter ! C Λ code (w ∷ []) _ $
        alloc_all ! (λ ls. pass_all ! refl (box_typed (E O) hv b o fa, tt) $
        sets ! (of_opd ! (get_in ! (fld ! refl (stop !)) (sub ! 0 refl (whole !)))) refl (tt, tt) $
        sets ! (of_opd ! (get_in ! (fld ! refl (stop !)) (sub ! 1 refl (whole !)))) refl fa $
        sets ! (of_opd ! (get ! refl)) refl (tt, tt) $
        sets ! (agg ! (and_then ! (get ! refl) (and_then ! (get ! refl) (no_more !)))) refl
        (box_typed (E O) hv b o fa) $ returns ! (look_at ! 0 refl) $ free_all ! refl $
        suffices ! _ (ends_at 𝓛 ended stayed (clauses 𝓤) z w (O.made t) (tt, tt) (tt, tt)) $
        says ! (ap (λ (s : Kept O). s.1.1) back) $
        nothing ! $ nothing ! $ fjoin ! $ join ! $ nothing ! $ join ! $ done !))))

pub of_parts_meets : (O : Owner) {M : Type 1} (𝓤 : Ura M) (𝓛 : Logic 𝓤) (𝓜 : Model 𝓤 𝓛.H) (𝓡 : Running 𝓤 𝓛.H 𝓜)
    → let 𝓣 = tables 𝓤 𝓛.H 𝓜 𝓡 𝓡.env in (k : Callee) → Closed 𝓤 𝓛.H 𝓣.C 𝓣.Λ k (code O)
    → Meets 𝓛 (ended O).signature (𝓣.C k) (closing 𝓛 (ended O) (clauses O 𝓤))
of_parts_meets O 𝓤 𝓛 𝓜 𝓡 k closed =
    let 𝓣 = tables 𝓤 𝓛.H 𝓜 𝓡 𝓡.env in
    proved_at 𝓛 (ended O) (stayed O) (clauses O 𝓤) 𝓜 𝓡 (
      Goes-dropped 𝓛 0 (plain (λ _. Parts O)) yes (λ κs x f. refl),
      tt,
    ) k (code O) closed (λ z are. walk O 𝓛 𝓣.C 𝓣.Λ z)
