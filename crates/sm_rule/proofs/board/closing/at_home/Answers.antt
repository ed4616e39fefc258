use Rattle.std.proofs.Common.{rules}
use Rattle.sm_rule.proofs.board.closing.at_home.Goals as goal

pub returns-then-state : goal.returns-then-state
returns-then-state c = search rules

pub returns-else-state : goal.returns-else-state
returns-else-state c = search rules
