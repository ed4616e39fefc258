use Rattle.std.proofs.Common.{rules}
use Rattle.sm_rule.proofs.board.Board.split.Goals as goal

pub returns-clause-number : goal.returns-clause-number
returns-clause-number c = search rules
