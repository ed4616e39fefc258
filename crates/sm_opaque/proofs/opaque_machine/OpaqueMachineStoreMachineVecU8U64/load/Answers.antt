use Rattle.std.proofs.Common.{arith}
use Rattle.sm_opaque.proofs.Counting.{bounded}
use Rattle.sm_opaque.proofs.opaque_machine.OpaqueMachineStoreMachineVecU8U64.load.Goals as goal

pub returns-in-len8 : goal.returns-in-len8
returns-in-len8 c = λ items spelled. let low = bounded items 0 (omega arith) in grind arith
