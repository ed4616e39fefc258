use Rattle.std.proofs.Common.{rules}
use Rattle.sm_ownership.proofs.record.Record.ended.Goals as goal

pub returns : goal.returns
returns c = search rules
