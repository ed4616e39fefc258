use Rattle.std.proofs.Common.{rules}
use Rattle.sm_control.proofs.control.Control.note.Goals as goal

pub returns-clause-seen : goal.returns-clause-seen
returns-clause-seen c = search rules
