use Rattle.std.proofs.Common.{rules}
use Rattle.sm_place.proofs.books.Books.rows.Goals as goal

pub returns-clause-servers : goal.returns-clause-servers
returns-clause-servers c = search rules
