use Rattle.sm_lead.proofs.Replays.{rows_made}
use Rattle.sm_lead.proofs.replay.make.Goals as goal

pub returns-in-Ok : goal.returns-in-Ok
returns-in-Ok c = rows_made c.args.desk c.commit.new.self c.args.command c.commit.ensures
