use Rattle.sm_lead.specs.Placements.{HasRowsOf}
use Rattle.sm_lead.proofs.replay.change_all.Given as goal

abbrev pub invariant-loop-change : goal.invariant-loop-change
invariant-loop-change l = HasRowsOf l.fn.desk l.after
