use Rattle.std.proofs.Common.{subst, sym}
use Rattle.sm_rule.specs.Passes.{PassLooks, PassValue}
use Rattle.sm_rule.specs.lemmas.Passing.{looks_looks}
use Rattle.sm_rule.proofs.Apart.{permits_apart}
use Rattle.sm_rule.proofs.board.Board.apart.Goals as goal

pub returns-clause-apart : goal.returns-clause-apart
returns-clause-apart g c =
    let first = c.one_history.ensures in
    let second = c.one_history-2.ensures in
    let third = c.one_history-3.ensures in
    permits_apart c.args.self.now c.args.mine.now c.one_history-2.new.other c.args.theirs.now c.one_history.new.other
    c.one_history-3.new.other c.args.permit.now c.args.other.now c.requires.mine c.requires.theirs c.requires.permit
    c.requires.other
    (looks_looks c.args.theirs.now c.differ.new.other c.one_history.new.other c.differ.ensures.other first.looks)
    first.holds
    (looks_looks c.args.mine.now c.differ.new.one c.one_history-2.new.other c.differ.ensures.one
    (subst (λ (pass : PassValue g.row.S-Request.Denot). PassLooks pass c.one_history-2.new.other) first.unchanged
    second.looks)) second.seen second.holds
    (subst (λ (pass : PassValue g.row.S-Request.Denot). PassLooks pass c.one_history-3.new.other) second.unchanged
    third.looks) third.seen c.differ.ensures.numbers

pub returns-clause-mine : goal.returns-clause-mine
returns-clause-mine g c =
    let looks = subst (λ (pass : PassValue g.row.S-Request.Denot). PassLooks pass c.one_history-2.new.other)
    c.one_history.ensures.unchanged c.one_history-2.ensures.looks in
    subst (λ (pass : PassValue g.row.S-Request.Denot). PassLooks c.args.mine.now pass)
    (sym c.one_history-3.ensures.unchanged)
    (looks_looks c.args.mine.now c.differ.new.one c.one_history-2.new.other c.differ.ensures.one looks)

pub returns-clause-theirs : goal.returns-clause-theirs
returns-clause-theirs g c =
    looks_looks c.args.theirs.now c.differ.new.other c.one_history-3.new.other c.differ.ensures.other
    (looks_looks c.differ.new.other c.one_history.new.other c.one_history-3.new.other c.one_history.ensures.looks
    (subst (λ (pass : PassValue g.row.S-Request.Denot). PassLooks pass c.one_history-3.new.other)
    c.one_history-2.ensures.unchanged c.one_history-3.ensures.looks))
