use Rattle.std.proofs.Common.{rules}
use Rattle.sm_rule.proofs.board.Board.chair_note.Goals as goal

pub invariant_of-chair : goal.invariant_of-chair
invariant_of-chair g c = rw c.cut.ensures.cutting c.chair.invariant

pub returns-clause-seen : goal.returns-clause-seen
returns-clause-seen g c = search rules
