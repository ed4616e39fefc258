use Rattle.std.proofs.Common.{rules}
use Rattle.sm_service.proofs.counter_text.put.Goals as goal

pub returns-clause-reply : goal.returns-clause-reply
returns-clause-reply c = search rules

pub returns-clause-after : goal.returns-clause-after
returns-clause-after c = search rules
