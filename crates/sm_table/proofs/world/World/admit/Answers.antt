use Rattle.std.proofs.Common.{◌<◌, length, sym, subst}
use Rattle.sm_table.proofs.Fitting.{IsTogether-admitted}
use Rattle.sm_table.proofs.world.World.admit.Goals as goal

pub invariant_of-self-2 : goal.invariant_of-self-2
invariant_of-self-2 g c =
    let within = subst (λ world. c.args.k < length world.records) (sym c.self.view_is) c.requires in
    IsTogether-admitted c.self.invariant c.args.k _ c.admit.new.self c.put.new.self within
    c.in_ok-admit.ensures.admitted c.put.ensures
