use Rattle.std.proofs.Common.{rules}
use Rattle.sm_desk.proofs.desk.Desk.new.Goals as goal

pub returns-clause-caps : goal.returns-clause-caps
returns-clause-caps c = search rules
