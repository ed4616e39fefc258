use Rattle.std.proofs.Common.{rules}
use Rattle.sm_desk.proofs.desk.Desk.commit.Goals as goal

pub returns-in-Change : goal.returns-in-Change
returns-in-Change c = search rules
