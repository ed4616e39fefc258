use Rattle.std.proofs.Common.{arith}
use Rattle.sm_director.proofs.SameBounds.{same_by_places}
use Rattle.sm_director.proofs.layouts.same_layout.Goals as goal

pub returns-clause-same : goal.returns-clause-same
returns-clause-same c =
    let first = c.count.ensures.value in
    let second = c.count-2.ensures.value in
    let end = c.count-at-end.ensures.value in
    let many = c.if-count.false in
    let past = c.loop-at-test.false in
    λ _. same_by_places c.args.one.now c.args.other.now (grind (arith, first, second, many))
    (λ j below. c.loop-at.invariant j (grind (arith, end, past, below)))
