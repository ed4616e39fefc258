use Rattle.std.proofs.Common.{rules}
use Rattle.sm_ownership.proofs.record.Record.admitted.Goals as goal

pub returns-in-Some-clause-fault : goal.returns-in-Some-clause-fault
returns-in-Some-clause-fault c = search rules

pub returns-clause-fault : goal.returns-clause-fault
returns-clause-fault c = search rules
