use Rattle.std.proofs.Common.{rules}
use Rattle.sm_desk.proofs.desk.Desk.knows.Goals as goal

pub returns : goal.returns
returns c = search rules
