-- `empty` makes a struct without bytes, and its list is empty.
use Rattle.std.proofs.Common.{◌≡◌, [], ◌∷◌, refl}
use base.Logic.{emp}
use contract.Monad.{fact, fact_i}
use mir.Syntax.{a_type}
use mir.MapTy.{inst_fn}
use types.Kit.{‵, raw, ◌⊛◌, ◌$◌, ◌∵◌, !, qed, by, move, keep, use0, split, fjoin}
use types.Part.{agg}
use types.Run.{and_then, no_more, returns, enter}
use types.ByLocal.{alloc_all, pass_all, free_all, look_at, get, sets}
use denote.Param.{param, layouts}
use denote.RattleType.{owns}
use denote.Signature.{types_at}
use denote.Steps.{nothing}
use denote.Triple.Entry.{alive}
use denote.Triple.Walked.{Stays, walk_of}
use Rattle.std.proofs.raw_atomic.Walks.{proved, leaves}
use Rattle.sm_trace.proofs.Nothing.{marked_val, marked_own, marked_made}
use Rattle.sm_trace.specs.contracts.trace.Trace as trace
use Rattle.sm_trace.specs.contracts.trace.Trace.empty.{ended, clauses}
use Rattle.sm_trace.specs.contracts.trace.Trace.empty.Key.{name as #self}
use Rattle.sm_trace.proofs.trace.Trace.empty.Statement.{statement}
use Rattle.sm_trace.proofs.trace.Trace.empty.Code as compiled

pub empty_spec : {M : Type 1} → statement M
empty_spec 𝓤 𝓛 𝓜 𝓡 wired A LA =
    let T = ended A in
    let c = clauses A 𝓛 𝓜.mem 𝓡.returns in
    let args = layouts (a_type ∷ []) (A, tt) in
    let hs : Stays T.signature.params T.kept = tt in
    let W = walk_of 𝓛 T hs c in
    proved 𝓛 T hs c 𝓜 𝓡 tt
    (#self args) (inst_fn args compiled.function) (compiled.unfolded 𝓤 𝓛.H 𝓜 𝓡 wired (A, tt))
    (λ κs. tt) (λ κs. tt) (λ κs qs bounds a g are.
    let y : W.Ghost = ((κs, qs, bounds, a, tt), g) in
    let new : (trace.the_row (param 0 A)).Denot = record { of = record {}; items = [] } in
    qed 𝓛 ((raw (alive 𝓛 T.signature κs qs) ⊛ ‵ (owns (types_at T.signature.params κs) a y.0.4))
    ∷ raw ((c κs a).requires g) ∷ []) ∵
    split ! $ keep ! (0 ∷ []) $
    enter ! _ _ _ _ _ $ alloc_all ! (λ l. pass_all ! refl tt $
    sets ! (agg ! (no_more !)) refl (tt, tt) $ sets ! (agg ! (and_then ! (get ! refl) (no_more !))) refl (
      tt,
      (tt, tt),
    ) $
    returns ! (look_at ! 0 refl) $ free_all ! refl $
    nothing ! $ use0 𝓛 (‵ (marked_own (param 0 A))) (marked_made 𝓛 (param 0 A)) $ fjoin ! $
    use0 𝓛 (raw (fact 𝓤 (new.items ≡ []))) (fact_i 𝓤 (new.items ≡ []) (emp 𝓤) refl) $
    nothing ! $ move ! (3 ∷ 0 ∷ 2 ∷ 1 ∷ []) $
    by ! (leaves 𝓛 T hs c y marked_val new tt tt)))
