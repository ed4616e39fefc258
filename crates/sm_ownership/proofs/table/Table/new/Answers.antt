use Rattle.std.proofs.Common.{rules}
use Rattle.sm_ownership.proofs.table.Table.new.Goals as goal

pub returns-clause-records : goal.returns-clause-records
returns-clause-records c = search rules
