use Rattle.sm_control.proofs.Standing.{stands_committed, stands_looked}
use Rattle.sm_control.proofs.control.Control.change.Goals as goal

pub invariant_of-self : goal.invariant_of-self
invariant_of-self g c = stands_looked c.self.inside.desk.books c.self.inside.chair c.self.invariant
    c.change_to.new.chair c.in-Err.ensures.refused.0

pub invariant_of-self-2 : goal.invariant_of-self-2
invariant_of-self-2 g c =
    stands_committed c.self.inside.desk c.commit_change.new.self c.self.inside.chair c.change_to.new.chair c.args.k
    c.args.change c.self.invariant c.in_ok-stand.ensures.fault c.in_default.ensures.made c.commit_change.ensures
