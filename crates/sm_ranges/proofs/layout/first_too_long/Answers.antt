use Rattle.std.proofs.Common.{length, rules, sym, ◌∙◌}
use Rattle.std.specs.Prelude.{nat_lt}
use Rattle.std.proofs.lemmas.Iterator.{YieldsList-from_slice}
use Rattle.std.proofs.lemmas.Iterator.Search.{position_from_yields_List}
use borrow.Author.Tests.{tests}
use Rattle.sm_ranges.proofs.Places.{position-map}
use Rattle.sm_ranges.proofs.layout.first_too_long.Goals as goal

pub returns : goal.returns
returns c =
    position_from_yields_List (λ bound. nat_lt 255 (length bound.now)) _ _ _ c.position.ensures.ran
    (YieldsList-from_slice c.args.bounds.now (cc)) (λ x b q k. search (rules, tests))
    ∙ sym (position-map (λ bound. nat_lt 255 (length bound)) (λ bound. bound.now) c.args.bounds.now)
