use Rattle.std.proofs.Common.{rules}
use Rattle.sm_ownership.proofs.record.Record.executor.Goals as goal

pub returns-in-Forwarding : goal.returns-in-Forwarding
returns-in-Forwarding c = search rules
