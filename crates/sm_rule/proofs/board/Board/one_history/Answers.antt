use Rattle.std.proofs.Common.{subst}
use Rattle.sm_rule.specs.Passes.{PassValue}
use Rattle.sm_rule.specs.Views.{Begins}
use Rattle.sm_rule.specs.lemmas.Passing.{begins_begins}
use Rattle.sm_rule.proofs.board.Board.one_history.Goals as goal

pub returns-clause-seen : goal.returns-clause-seen
returns-clause-seen g c =
    let met = c.take_in.ensures.met in
    subst (λ (pass : PassValue g.row.S-Request.Denot). Begins pass.seen c.take_in.new.seat.me.0.seen) c.one.view_is
    (begins_begins c.one.inside.seat.me.0.seen c.cut-half.result.me.0.seen c.take_in.new.seat.me.0.seen
    c.cut-half.ensures.half.3 (met.0, met.1))
