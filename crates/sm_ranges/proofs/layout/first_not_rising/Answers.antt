use Rattle.std.proofs.Common.{rules}
use Rattle.sm_ranges.proofs.Layouts.{first_not_rising-found}
use Rattle.sm_ranges.proofs.layout.first_not_rising.Goals as goal

pub returns : goal.returns
returns c = first_not_rising-found c.args.bounds.now c.first_unordered.result c.map.result
    c.first_unordered.ensures.value (search rules)
