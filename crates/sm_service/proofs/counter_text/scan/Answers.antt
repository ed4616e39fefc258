use Rattle.std.proofs.Common.{rules}
use Rattle.sm_service.proofs.counter_text.scan.Goals as goal

pub returns : goal.returns
returns c = search rules
