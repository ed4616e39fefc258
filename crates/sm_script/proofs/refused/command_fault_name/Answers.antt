use Rattle.std.proofs.Common.{rules}
use Rattle.sm_script.proofs.refused.command_fault_name.Goals as goal

pub returns-in-Change-Busy : goal.returns-in-Change-Busy
returns-in-Change-Busy c = search rules
