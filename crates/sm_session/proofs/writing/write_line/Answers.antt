use Rattle.std.proofs.Common.{arith}
use Rattle.std.proofs.lemmas.Grind.{common_steps}
use Rattle.sm_session.proofs.writing.write_line.Goals as goal

pub returns : goal.returns
returns c = grind (arith, common_steps)
