use Rattle.sm_table.proofs.Tracing.{based}
use Rattle.sm_table.proofs.traced.Traced.checkpoint.Goals as goal

pub invariant_of-self : goal.invariant_of-self
invariant_of-self g c =
    based g.S.Service.initial g.S.Service.next (g.S.Service.base c.self.inside.body)
    (g.S.Service.before c.self.inside.body)
    (g.S.Service.requests c.self.inside.body) c.self.inside.all.items c.self.invariant.0 c.self.invariant.1
    (g.S.Service.base c.checkpoint.new.self) (g.S.Service.before c.checkpoint.new.self)
    (g.S.Service.requests c.checkpoint.new.self) c.checkpoint.result c.self.invariant.2
    c.checkpoint.ensures.base c.checkpoint.ensures.before c.checkpoint.ensures.kept c.checkpoint.ensures.base_stays
    c.checkpoint.ensures.before_stays c.checkpoint.ensures.kept_stays
