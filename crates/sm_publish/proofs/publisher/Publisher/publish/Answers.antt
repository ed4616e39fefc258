use Rattle.std.proofs.Common.{rules}
use Rattle.sm_publish.proofs.publisher.Publisher.publish.Goals as goal

pub returns-clause-published : goal.returns-clause-published
returns-clause-published c = search rules
