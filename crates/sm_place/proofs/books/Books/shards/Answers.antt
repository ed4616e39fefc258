use Rattle.std.proofs.Common.{rules}
use Rattle.sm_place.proofs.books.Books.shards.Goals as goal

pub returns : goal.returns
returns c = search rules
