use Rattle.std.proofs.Common.{rules}
use Rattle.sm_rule.proofs.board.Board.count.Goals as goal

pub returns : goal.returns
returns c = search rules
