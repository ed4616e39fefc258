use Rattle.std.proofs.Common.{rules}
use Rattle.sm_place.proofs.books.Books.plan_drain.Goals as goal

pub returns-clause-plan : goal.returns-clause-plan
returns-clause-plan c = search rules
