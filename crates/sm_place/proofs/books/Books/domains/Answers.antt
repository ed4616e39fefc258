use Rattle.std.proofs.Common.{rules}
use Rattle.sm_place.proofs.books.Books.domains.Goals as goal

pub returns : goal.returns
returns c = search rules
