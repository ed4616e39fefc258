use Rattle.std.proofs.Common.{rules}
use Rattle.sm_server.proofs.answer.Answer.server.Goals as goal

pub returns : goal.returns
returns c = search rules
