use Rattle.sm_control.proofs.Standing.{stands_empty}
use Rattle.sm_control.proofs.control.Control.new.Goals as goal

pub invariant_of-result : goal.invariant_of-result
invariant_of-result g c = stands_empty c.args.desk.books c.args.chair c.requires.seen c.requires.count c.requires.vacant
