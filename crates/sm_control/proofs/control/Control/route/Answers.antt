use Rattle.sm_control.proofs.Standing.{stands_looked}
use Rattle.sm_control.proofs.control.Control.route.Goals as goal

pub invariant_of-self : goal.invariant_of-self
invariant_of-self g c = stands_looked c.self.inside.desk.books c.self.inside.chair c.self.invariant
    c.look_chair-generation.new.chair c.look_chair-generation.ensures.seen
