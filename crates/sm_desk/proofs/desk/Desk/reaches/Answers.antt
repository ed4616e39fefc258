use Rattle.std.proofs.Common.{rules}
use Rattle.sm_desk.proofs.desk.Desk.reaches.Goals as goal

pub returns : goal.returns
returns c = search rules
