use Rattle.std.proofs.Common.{rules}
use Rattle.sm_rule.proofs.board.Board.note.Goals as goal

pub returns-clause-seen : goal.returns-clause-seen
returns-clause-seen c = search rules
