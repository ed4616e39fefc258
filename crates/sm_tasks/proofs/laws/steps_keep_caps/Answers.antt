use Rattle.sm_tasks.proofs.Keeping.{MeetsCaps-ask, MeetsCaps-approve, MeetsCaps-stopped, MeetsCaps-back, MeetsCaps-fail}
use Rattle.sm_tasks.proofs.laws.steps_keep_caps.Goals as goal

pub returns : goal.returns
returns c = record {
  ask = MeetsCaps-ask;
  approve = MeetsCaps-approve;
  stopped = MeetsCaps-stopped;
  back = MeetsCaps-back;
  fail = MeetsCaps-fail;
}
