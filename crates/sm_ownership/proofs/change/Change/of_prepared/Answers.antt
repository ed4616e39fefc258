use Rattle.std.proofs.Common.{rules}
use Rattle.sm_ownership.proofs.change.Change.of_prepared.Goals as goal

pub returns-in-PrepareDropShard : goal.returns-in-PrepareDropShard
returns-in-PrepareDropShard c = search rules
