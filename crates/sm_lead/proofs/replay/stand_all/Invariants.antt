use Rattle.sm_lead.specs.Placements.{HasRowsOf}
use Rattle.sm_lead.proofs.replay.stand_all.Given as goal

abbrev pub invariant-loop-number : goal.invariant-loop-number
invariant-loop-number l = HasRowsOf l.fn.desk l.after
