use Rattle.std.proofs.Common.{rules}
use Rattle.sm_service.proofs.counter_text.inc.Goals as goal

pub returns-clause-reply : goal.returns-clause-reply
returns-clause-reply c = search rules
