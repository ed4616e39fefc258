use Rattle.std.proofs.Common.{rules}
use Rattle.sm_lines.proofs.script_run.ending.Goals as goal

pub returns-in-Ok : goal.returns-in-Ok
returns-in-Ok c = search rules
