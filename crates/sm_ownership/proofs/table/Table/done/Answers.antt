use Rattle.std.proofs.Common.{rules}
use Rattle.sm_ownership.proofs.table.Table.done.Goals as goal

pub returns-clause-done : goal.returns-clause-done
returns-clause-done c = search rules
