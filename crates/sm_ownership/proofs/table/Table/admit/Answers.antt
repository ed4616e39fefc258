use Rattle.std.proofs.Common.{rules}
use Rattle.sm_ownership.proofs.table.Table.admit.Goals as goal

pub returns-in-Ok-clause-admitted : goal.returns-in-Ok-clause-admitted
returns-in-Ok-clause-admitted c = search rules
