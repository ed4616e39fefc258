use Rattle.std.proofs.Common.{rules}
use Rattle.sm_explain.proofs.explained_session.ExplainedSessionResponder.respond_long.Goals as goal

pub returns : goal.returns
returns c = search rules
