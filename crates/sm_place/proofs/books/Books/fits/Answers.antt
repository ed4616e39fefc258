use Rattle.std.proofs.Common.{rules}
use Rattle.sm_place.proofs.books.Books.fits.Goals as goal

pub returns : goal.returns
returns c = search rules

pub returns-then-exceeds_capacity : goal.returns-then-exceeds_capacity
returns-then-exceeds_capacity c = search rules

pub returns-then-exceeds_limit : goal.returns-then-exceeds_limit
returns-then-exceeds_limit c = search rules
