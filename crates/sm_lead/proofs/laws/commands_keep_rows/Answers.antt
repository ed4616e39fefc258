use Rattle.sm_lead.proofs.Replays.{rows_made}
use Rattle.sm_lead.proofs.laws.commands_keep_rows.Goals as goal

pub returns : goal.returns
returns c = λ control new command write revision after. rows_made control.desk new.desk command after.desk
