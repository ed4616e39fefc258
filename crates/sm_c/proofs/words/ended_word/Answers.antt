use Rattle.std.proofs.Common.{◌≡◌, true, refl, inl, inr, arith}
use Rattle.std.proofs.lemmas.Bool.{not-false, not-true}
use Rattle.sm_word.specs.lemmas.Histories.{formed_done}
use Rattle.sm_c.proofs.words.ended_word.Goals.{
  then-not-state-via-then-not-state,
  then-not-state-via-else-not-state+then-state-eq-MAX_GENERATION,
}
use Rattle.sm_c.proofs.words.ended_word.Goals as goal

pub returns-then-not-state-clause-none : goal.returns-then-not-state-clause-none
returns-then-not-state-clause-none c =
    let known = (c.in-Some.ensures c.in-Some.state).0 refl in
    inr (
      c.in-Some.state,
      known.0,
      known.1,
      elim c.then-not-state.branch [
        | then-not-state-via-then-not-state w ↦ inl (not-true c.in-Some.state.admitted w.if-not-state.true)
        | then-not-state-via-else-not-state+then-state-eq-MAX_GENERATION w ↦ inr w.if-state-eq-MAX_GENERATION.true
      ],
    )

pub done_word-requires : goal.done_word-requires
done_word-requires c =
    let known = (c.in-Some.ensures c.in-Some.state).0 refl in
    (c.in-Some.state, known.0, not-false c.in-Some.state.admitted c.if-not-state.false, known.1)

pub returns-clause-next : goal.returns-clause-next
returns-clause-next c =
    let known = (c.in-Some.ensures c.in-Some.state).0 refl in
    let busy : c.in-Some.state.admitted ≡ true = not-false c.in-Some.state.admitted c.if-not-state.false in
    let most = known.0.generation in (
      c.in-Some.state,
      known.0,
      known.1,
      busy,
      c.done_word.ensures c.in-Some.state busy known.1,
      formed_done c.in-Some.state known.0 busy (omega arith),
    )
