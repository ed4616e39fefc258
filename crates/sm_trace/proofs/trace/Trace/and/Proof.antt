-- `and` makes a struct without bytes; its list is that of `self` and then the item.
use Rattle.std.proofs.Common.{◌≡◌, [], ◌∷◌, ◌++◌, refl}
use base.Logic.{emp}
use contract.Monad.{fact, fact_i}
use mir.Syntax.{a_type, named}
use mir.MapTy.{inst_fn}
use types.Kit.{‵, raw, ◌⊛◌, ◌$◌, ◌∵◌, !, qed, by, move, keep, use0, split, fjoin}
use types.Part.{agg}
use types.Run.{and_then, no_more, returns, enter}
use types.ByLocal.{alloc_all, pass_all, free_all, look_at, get, sets}
use denote.Builtin.{RefOf}
use denote.Exit.{yes}
use denote.RattleType.{owns}
use denote.Param.{param, layouts}
use denote.Ref.{shr_vals, shr_Tells}
use denote.Signature.{plain, types_at}
use denote.Steps.{nothing}
use denote.Triple.Entry.{alive}
use denote.Triple.Walked.{Stays, stay_dropped, walk_of, Goes-dropped}
use Rattle.std.proofs.raw_atomic.Walks.{proved, leaves}
use Rattle.sm_trace.proofs.Nothing.{marked_val, marked_own, marked_made}
use Rattle.sm_trace.specs.contracts.trace.Trace as trace
use Rattle.sm_trace.specs.contracts.trace.Trace.and.{ended, clauses}
use Rattle.sm_trace.specs.contracts.trace.Trace.and.Key.{name as #self}
use Rattle.sm_trace.proofs.trace.Trace.and.Statement.{statement}
use Rattle.sm_trace.proofs.trace.Trace.and.Code as compiled

pub and_spec : {M : Type 1} → statement M
and_spec 𝓤 𝓛 𝓜 𝓡 wired A LA =
    let T = ended A in
    let c = clauses A 𝓛 𝓜.mem 𝓡.returns in
    let args = layouts (a_type ∷ []) (A, tt) in
    let N = RefOf (0 ∷ []) tt (plain (λ _. trace.the_row (param 0 A))) (λ _. tt) in
    let P = RefOf (1 ∷ []) tt (plain (λ _. param 0 A)) (λ _. tt) in
    let hs : Stays T.signature.params T.kept = (stay_dropped N yes, (stay_dropped P yes, tt)) in
    let W = walk_of 𝓛 T hs c in
    proved 𝓛 T hs c 𝓜 𝓡 (Goes-dropped 𝓛 3 N yes (λ κs x w. refl), (Goes-dropped 𝓛 3 P yes (λ κs x w. refl), tt))
    (#self args) (inst_fn args compiled.function) (compiled.unfolded 𝓤 𝓛.H 𝓜 𝓡 wired (A, tt))
    (λ κs. (shr_vals, (shr_vals, tt))) (λ κs. (
      shr_Tells (named 0) κs.0 (trace.the_row (param 0 A)),
      (shr_Tells (named 1) κs.1.0 (param 0 A), tt),
    )) (λ κs qs bounds a g are.
    let y : W.Ghost = ((κs, qs, bounds, a, (shr_vals a.0, (shr_vals a.1.0, tt))), g) in
    let new : (trace.the_row (param 0 A)).Denot = record { of = record {}; items = a.0.now.items ++ a.1.0.now ∷ [] } in
    qed 𝓛 ((raw (alive 𝓛 T.signature κs qs) ⊛ ‵ (owns (types_at T.signature.params κs) a y.0.4))
    ∷ raw ((c κs a).requires g) ∷ []) ∵
    split ! $ keep ! (0 ∷ []) $
    enter ! _ _ _ _ _ $ alloc_all ! (λ l. pass_all ! refl ((tt, tt), ((tt, tt), tt)) $
    sets ! (agg ! (no_more !)) refl (tt, tt) $ sets ! (agg ! (and_then ! (get ! refl) (no_more !))) refl (
      tt,
      (tt, tt),
    ) $
    returns ! (look_at ! 0 refl) $ free_all ! refl $
    nothing ! $ use0 𝓛 (‵ (marked_own (param 0 A))) (marked_made 𝓛 (param 0 A)) $ fjoin ! $
    use0 𝓛 (raw (fact 𝓤 (new.items ≡ new.items))) (fact_i 𝓤 (new.items ≡ new.items) (emp 𝓤) refl) $
    nothing ! $ nothing ! $ fjoin ! $ nothing ! $ fjoin ! $ move ! (3 ∷ 0 ∷ 2 ∷ 1 ∷ []) $
    by ! (leaves 𝓛 T hs c y marked_val new (tt, (tt, tt)) (tt, (tt, tt)))))
