use Rattle.std.proofs.Common.{rules}
use Rattle.sm_script.proofs.line.client_call.Goals as goal

pub returns-in-None-clause-err : goal.returns-in-None-clause-err
returns-in-None-clause-err c = search rules
