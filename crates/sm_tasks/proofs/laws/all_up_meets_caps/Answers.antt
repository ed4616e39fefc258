use Rattle.sm_tasks.proofs.Standing.{MeetsCaps-all_up, MeetsCaps-new}
use Rattle.sm_tasks.proofs.laws.all_up_meets_caps.Goals as goal

pub returns : goal.returns
returns c = record {
  all_up = MeetsCaps-all_up;
  new = MeetsCaps-new;
}
