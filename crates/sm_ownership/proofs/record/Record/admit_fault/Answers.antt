use Rattle.std.proofs.Common.{rules}
use Rattle.sm_ownership.proofs.record.Record.admit_fault.Goals as goal

pub returns-then-has_room : goal.returns-then-has_room
returns-then-has_room c = search rules
