use Rattle.std.proofs.Common.{rules}
use Rattle.sm_script.proofs.load_verdict.LoadVerdict.name.Goals as goal

pub returns-in-Differs : goal.returns-in-Differs
returns-in-Differs c = search rules
