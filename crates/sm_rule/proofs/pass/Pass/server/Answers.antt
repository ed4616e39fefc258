use Rattle.std.proofs.Common.{rules}
use Rattle.sm_rule.proofs.pass.Pass.server.Goals as goal

pub returns : goal.returns
returns c = search rules
