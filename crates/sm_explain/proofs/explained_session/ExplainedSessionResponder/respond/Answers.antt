use Rattle.std.proofs.Common.{rules}
use Rattle.sm_explain.proofs.explained_session.ExplainedSessionResponder.respond.Goals as goal

pub returns-clause-gives : goal.returns-clause-gives
returns-clause-gives c = search rules
