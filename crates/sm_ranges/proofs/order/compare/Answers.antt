use Rattle.std.proofs.Common.{◌-◌, sym, ◌∙◌, arith, rules}
use Rattle.core.proofs.cmp.Settled.{word, fewer, by_lengths}
use Rattle.sm_ranges.proofs.order.compare.Goals as goal

pub returns-then-x-y : goal.returns-then-x-y
returns-then-x-y c =
    let first = c.args.first.now in
    let second = c.args.second.now in
    let read = word first second (search rules) (search rules) c.loop-at.at 8 _ _ (omega arith)
    (omega arith) c.number_at-x.ensures c.number_at-y.ensures c.loop-at.invariant in
    c.cmp-then-x-y.ensures ∙ sym (read.apart c.if-x-y.true)

pub loop-at-preserved : goal.loop-at-preserved
loop-at-preserved c =
    let first = c.args.first.now in
    let second = c.args.second.now in
    let read = word first second (search rules) (search rules) c.loop-at.at 8 _ _ (omega arith)
    (omega arith) c.number_at-x.ensures c.number_at-y.ensures c.loop-at.invariant in
    read.alike c.if-x-y.false

pub returns-then-x-y-2 : goal.returns-then-x-y-2
returns-then-x-y-2 c =
    let first = c.args.first.now in
    let second = c.args.second.now in
    let seen = fewer first second (c.min-both.result - 8) c.loop-at.at (omega arith) c.loop-at.invariant in
    let read = word first second (search rules) (search rules) _ 8 _ _ (omega arith)
    (omega arith) c.number_at-x-2.ensures c.number_at-y-2.ensures seen in
    c.cmp-then-x-y-2.ensures ∙ sym (read.apart c.if-x-y-2.true)

pub returns : goal.returns
returns c =
    let first = c.args.first.now in
    let second = c.args.second.now in
    let seen = fewer first second (c.min-both.result - 8) c.loop-at.at (omega arith) c.loop-at.invariant in
    let read = word first second (search rules) (search rules) _ 8 _ _ (omega arith)
    (omega arith) c.number_at-x-2.ensures c.number_at-y-2.ensures seen in
    by_lengths first second c.min-both.result _ c.min-both.ensures
    (fewer first second _ _ (omega arith) (read.alike c.if-x-y-2.false)) c.cmp-2.ensures
