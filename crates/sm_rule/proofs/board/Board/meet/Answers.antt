use Rattle.std.proofs.Common.{rules}
use Rattle.sm_rule.proofs.board.Board.meet.Goals as goal

pub returns-clause-met : goal.returns-clause-met
returns-clause-met c = search rules
