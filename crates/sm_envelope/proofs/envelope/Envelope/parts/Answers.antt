use Rattle.std.proofs.Common.{rules}
use Rattle.sm_envelope.proofs.envelope.Envelope.parts.Goals as goal

pub returns-clause-shell : goal.returns-clause-shell
returns-clause-shell c = search rules
