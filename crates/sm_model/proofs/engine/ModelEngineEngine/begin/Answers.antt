use Rattle.std.proofs.Common.{rules}
use Rattle.sm_model.proofs.engine.ModelEngineEngine.begin.Goals as goal

pub returns-in-Err-clause-refused : goal.returns-in-Err-clause-refused
returns-in-Err-clause-refused c = search rules
