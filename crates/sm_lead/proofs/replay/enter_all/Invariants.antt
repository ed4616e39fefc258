use Rattle.sm_lead.specs.Placements.{HasRowsOf}
use Rattle.sm_lead.proofs.replay.enter_all.Given as goal

abbrev pub invariant-loop-place : goal.invariant-loop-place
invariant-loop-place l = HasRowsOf l.fn.desk l.after
