use Rattle.std.proofs.Common.{rules}
use Rattle.sm_lines.proofs.script_run.run_session.Goals as goal

pub returns-clause-answered : goal.returns-clause-answered
returns-clause-answered c = search rules
