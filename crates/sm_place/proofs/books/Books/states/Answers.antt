use Rattle.std.proofs.Common.{rules}
use Rattle.sm_place.proofs.books.Books.states.Goals as goal

pub returns : goal.returns
returns c = search rules
