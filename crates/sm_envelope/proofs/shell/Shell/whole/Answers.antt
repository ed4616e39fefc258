use Rattle.std.proofs.Common.{rules}
use Rattle.sm_envelope.proofs.shell.Shell.whole.Goals as goal

pub returns : goal.returns
returns c = search rules
