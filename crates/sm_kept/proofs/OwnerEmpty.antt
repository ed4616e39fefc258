-- The effect of `empty` of an owner, by its code: it makes the owner of nothing.
use mathlib.Core.Path.{◌≡◌, ap, refl, sym, subst}
use mathlib.Core.List.{List, [], ◌∷◌, ◌++◌}
use seplogic.Ra.Ura.{Ura}
use mir.Syntax.{Callee, Fn, aggregate, assign, copy, int, local, place, return, seq, value_local, w64}
use mir.Val.{Val, vstruct, vcons, vnil, vnull}
use base.Logic.{ent, emp, id⊢}
use base.Fml.{ftrue, fsep}
use prog.Model.{Model}
use prog.Wp.{Calls, Closed, Loops, WpFn}
use types.Logic.{Logic}
use contract.Monad.{fact}
use contract.Running.{Running, tables}
use types.Kit.{Item, ‵, raw, ◌⊛◌, rewrite, ◌$◌, ◌∵◌, !, qed, by, move, drop, use1, join, split, fsplit, fjoin}
use types.Kit.{fpack, feq_i, suffices, done}
use types.Part.{agg}
use types.Run.{lit, no_more, and_then, returns, enter}
use types.ByLocal.{alloc_all, pass_all, free_all, look_at, get, sets}
use denote.Exit.{yes}
use denote.RattleType.{Valss}
use denote.Param.{layout}
use denote.RawPtr.{RawPtr, null_ptr, ptr_val}
use denote.Struct.Struct.{within}
use lib.Dec.{lit<}
use denote.Signature.{plain}
use denote.Steps.{nothing}
use denote.Triple.Clauses.{Clauses, Ended, closing}
use denote.Triple.Spec.{Meets}
use denote.Triple.Walked.{says, Stays, stay_dropped, walk_of, ends_at, Goes-dropped}
use Rattle.std.proofs.raw_atomic.Walks.{proved_at}
use Rattle.std.specs.Prelude.{None}
use Rattle.std.specs.contracts.alloc.Global as Heap
use Rattle.core.proofs.alloc.Calls.{handle_tells}
use Rattle.std_alloc.proofs.ResultValues.{and_tt}
use Rattle.sm_kept.proofs.Owner.{Owner, E, H, Kept, fields, owned, state_of}

module _ (O : Owner) where
  abbrev pub code : Fn
  code = record {
    lifetimes = 0;
    outlives = [];
    ty_params = [];
    givens = 0;
    params = 1;
    locals = local (layout (H O)) value_local ∷ local (layout Heap.the_row) value_local ∷ [];
    body = seq (assign (place 0 []) (aggregate (int w64 0 ∷ copy (place 1 []) ∷ []))) return;
  }

  abbrev pub ended : Ended
  ended = record {
    signature = record {
      lifetimes = 0;
      outlives = [];
      params = plain (λ _. Heap.the_row) ∷ [];
      result = plain (λ _. H O);
    };
    kept = (yes, tt);
  }

  abbrev pub clauses : {M : Type 1} (𝓤 : Ura M) → Clauses 𝓤 ended
  clauses 𝓤 κs a = record {
    ghost = Unit {0};
    requires = λ _. emp 𝓤;
    ensures = λ _ r _. fact 𝓤 (state_of O r ≡ None);
  }

  abbrev stayed : Stays ended.signature.params ended.kept
  stayed = (stay_dropped (plain (λ _. Heap.the_row)) yes, tt)

  module _ {M : Type 1} {𝓤 : Ura M} (𝓛 : Logic 𝓤) (C : Calls 𝓤 𝓛.H) (Λ : Loops 𝓤 𝓛.H) where
    walk : (z : (walk_of 𝓛 ended stayed (clauses 𝓤)).Ghost)
        → ent 𝓤 ((walk_of 𝓛 ended stayed (clauses 𝓤)).pre z) (WpFn 𝓤 𝓛.H C Λ code
        (z.0.4.0 ++ []) ((walk_of 𝓛 ended stayed (clauses 𝓤)).post z))
    walk z =
        let Post = (walk_of 𝓛 ended stayed (clauses 𝓤)).post z in
        let a = z.0.3.0 in let us = z.0.4.0 in let t : Kept O = (null_ptr, (a, None)) in let back = O.parts_made t in
        qed 𝓛 ((‵ ftrue ⊛ ‵ (fsep (Heap.the_row.own_val a us) ftrue)) ∷ raw (emp 𝓤) ∷ []) ∵
        split ! $ drop ! $ fsplit ! $
        handle_tells (E O).al ! a us (λ hv eh fa. move ! (1 ∷ 2 ∷ []) $ drop ! $ drop ! $
        let w : Val = vstruct (vcons vnull (vcons hv vnil)) in
        let Γ : List (Item 𝓤) = ‵ (Heap.the_row.own_val a (hv ∷ [])) ∷ [] in
        by ! (subst (λ (us : List Val). ent 𝓤 (types.Kit.⋆ 𝓛 Γ) (WpFn 𝓤 𝓛.H C Λ code (us ++ []) Post)) (sym eh)
        (qed 𝓛 Γ ∵ enter ! C Λ code (hv ∷ []) _ $ alloc_all ! (λ ls. pass_all ! refl (fa, tt) $
        sets ! (agg ! (and_then ! (lit ! tt) (and_then ! (get ! refl) (no_more !)))) refl (
          and_tt _ fa.0,
          (record { fits = lit< tt }, (fa.1, tt)),
        ) $ returns ! (look_at ! 0 refl) $ free_all ! refl $
        nothing ! $ nothing ! $ move ! (2 ∷ 0 ∷ []) $ fjoin ! $
        feq_i ! (List Val) (vnull ∷ []) (ptr_val null_ptr ∷ []) refl $ fjoin ! $
        feq_i ! (List Val) (w ∷ []) (w ∷ []) refl $ fjoin ! $
        fpack ! (Valss (RawPtr ∷ Heap.the_row ∷ [])) (within (fields O) (null_ptr, (a, tt)) (w ∷ [])) (
          vnull ∷ [],
          (hv ∷ [], tt),
        ) $ fjoin ! $ use1 𝓛 (‵ (owned O t (w ∷ []))) (id⊢ 𝓤 _) $
        rewrite ! 0 (λ (s : Kept O). ‵ (owned O s (w ∷ []))) (sym back) refl $
        suffices ! _ (ends_at 𝓛 ended stayed (clauses 𝓤) z w (O.made t) (tt, tt) (tt, tt)) $
        says ! (ap (λ (s : Kept O). s.1.1) back) $
        nothing ! $ nothing ! $ fjoin ! $ join ! $ nothing ! $ join ! $ done !))))

pub empty_meets : (O : Owner) {M : Type 1} (𝓤 : Ura M) (𝓛 : Logic 𝓤) (𝓜 : Model 𝓤 𝓛.H) (𝓡 : Running 𝓤 𝓛.H 𝓜)
    → let 𝓣 = tables 𝓤 𝓛.H 𝓜 𝓡 𝓡.env in (k : Callee) → Closed 𝓤 𝓛.H 𝓣.C 𝓣.Λ k (code O)
    → Meets 𝓛 (ended O).signature (𝓣.C k) (closing 𝓛 (ended O) (clauses O 𝓤))
empty_meets O 𝓤 𝓛 𝓜 𝓡 k closed =
    let 𝓣 = tables 𝓤 𝓛.H 𝓜 𝓡 𝓡.env in
    proved_at 𝓛 (ended O) (stayed O) (clauses O 𝓤) 𝓜 𝓡 (
      Goes-dropped 𝓛 0 (plain (λ _. Heap.the_row)) yes (λ κs x f. refl),
      tt,
    ) k (code O) closed (λ z are. walk O 𝓛 𝓣.C 𝓣.Λ z)
