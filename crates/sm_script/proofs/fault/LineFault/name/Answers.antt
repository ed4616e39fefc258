use Rattle.std.proofs.Common.{rules}
use Rattle.sm_script.proofs.fault.LineFault.name.Goals as goal

pub returns-in-BadLine : goal.returns-in-BadLine
returns-in-BadLine c = search rules
