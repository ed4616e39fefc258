use Rattle.sm_tasks.proofs.Standing.{MeetsCaps-taken, MeetsCaps-serving, MeetsCaps-prepared, MeetsCaps-fewer}
use Rattle.sm_tasks.proofs.laws.stands_keep_caps.Goals as goal

pub returns : goal.returns
returns c = record {
  taken = MeetsCaps-taken;
  serving = MeetsCaps-serving;
  prepared = MeetsCaps-prepared;
  fewer = MeetsCaps-fewer;
}
