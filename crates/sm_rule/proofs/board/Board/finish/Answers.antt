use Rattle.std.proofs.Common.{rules}
use Rattle.sm_rule.proofs.board.Board.finish.Goals as goal

pub finish_as-requires-clause-kind : goal.finish_as-requires-clause-kind
finish_as-requires-clause-kind c = search rules
