use Rattle.std.proofs.Common.{rules}
use Rattle.sm_envelope.proofs.envelope.Envelope.hops.Goals as goal

pub returns : goal.returns
returns c = search rules
