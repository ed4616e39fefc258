use Rattle.std.proofs.Common.{ap, ◌∙◌}
use Rattle.std.proofs.lemmas.Result.{err_from_is_err_and}
use Rattle.sm_body.specs.Service.{meaning_of}
use Rattle.sm_desk.specs.Desk.{stands_of}
use Rattle.sm_table.proofs.Restarts.{restart_refused, restarted, spares_stands}
use Rattle.sm_table.proofs.Fitting.{IsTogether-desk}
use Rattle.sm_table.proofs.world.World.restart.Goals as goal

pub returns-in_err-check-clause-stands : goal.returns-in_err-check-clause-stands
returns-in_err-check-clause-stands g c = λ w stands.
    let p = err_from_is_err_and c.from_residual.result c.from_residual.ensures.1 in
    rw (p.1, p.2) (restart_refused (meaning_of g.S.Service.initial g.S.Service.next g.S.Service.answer
    g.S.Service.key_of) c.args.self.now c.self.view_is w stands c.args.command _ c.in_err-check.ensures)

pub invariant_of-self : goal.invariant_of-self
invariant_of-self g c =
    IsTogether-desk c.self.invariant c.commit.new.self
    (ap stands_of c.commit.ensures ∙ spares_stands c.self.inside.desk c.args.command c.requires)

pub returns-clause-stands : goal.returns-clause-stands
returns-clause-stands g c = λ w stands.
    restarted (meaning_of g.S.Service.initial g.S.Service.next g.S.Service.answer g.S.Service.key_of) c.args.self.now
    c.self.view_is w stands c.args.command c.requires c.commit.new.self c.in_ok-check.ensures c.commit.ensures
