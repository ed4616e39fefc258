use Rattle.std.proofs.Common.{rules}
use Rattle.sm_place.proofs.books.Books.set_state.Goals as goal

pub returns : goal.returns
returns c = search rules
