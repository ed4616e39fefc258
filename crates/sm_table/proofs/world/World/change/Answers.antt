use Rattle.std.proofs.Common.{◌∙◌, ap, sym}
use Rattle.std.proofs.lemmas.Result.{err_from_is_err_and}
use Rattle.sm_body.specs.Service.{meaning_of}
use Rattle.sm_ownership.specs.Rules.{stand_after}
use Rattle.sm_desk.specs.lemmas.Changes.{let_through}
use Rattle.sm_table.proofs.Controls.{refused_by_desk, refused_by_table, made}
use Rattle.sm_table.proofs.Fitting.{IsTogether-changed, shard_there, stand_there}
use Rattle.sm_table.proofs.world.World.change.Goals as goal

pub returns-in_err-stand-clause-stands : goal.returns-in_err-stand-clause-stands
returns-in_err-stand-clause-stands g c = λ w stands.
    let p = err_from_is_err_and c.from_residual.result c.from_residual.ensures.1 in
    rw (p.1, p.2) (refused_by_desk (meaning_of g.S.Service.initial g.S.Service.next g.S.Service.answer
    g.S.Service.key_of) c.args.self.now c.self.view_is w stands c.args.k c.args.change.now _
    c.in_err-stand.ensures.fault)

pub change_to-requires-clause-known : goal.change_to-requires-clause-known
change_to-requires-clause-known g c =
    shard_there c.self.invariant c.args.k
    (let_through c.self.inside.desk.books c.args.k c.args.change.now (sym c.in_ok-stand.ensures.fault)).within

pub change_to-requires-clause-leads : goal.change_to-requires-clause-leads
change_to-requires-clause-leads g c =
    ap (λ stand. stand_after stand c.args.change.now) (sym (stand_there c.self.invariant c.args.k
    (let_through c.self.inside.desk.books c.args.k c.args.change.now (sym c.in_ok-stand.ensures.fault)).within))
    ∙ c.in_ok-stand.ensures.stand

pub returns-in-Err-clause-stands : goal.returns-in-Err-clause-stands
returns-in-Err-clause-stands g c = λ w stands.
    rw c.into.ensures (refused_by_table (meaning_of g.S.Service.initial g.S.Service.next g.S.Service.answer
    g.S.Service.key_of) c.args.self.now c.self.view_is w stands c.args.k c.args.change.now c.in_ok-stand.ensures.fault
    c.in-Err.fault c.change_to.new.self c.in-Err.ensures.fault c.in-Err.ensures.unchanged)

pub invariant_of-self-2 : goal.invariant_of-self-2
invariant_of-self-2 g c =
    IsTogether-changed c.self.invariant c.args.k c.args.change.now c.commit_change.new.self c.change_to.new.self
    (let_through c.self.inside.desk.books c.args.k c.args.change.now (sym c.in_ok-stand.ensures.fault)).within
    c.commit_change.ensures c.in_default.ensures.made

pub returns-clause-stands : goal.returns-clause-stands
returns-clause-stands g c = λ w stands.
    made (meaning_of g.S.Service.initial g.S.Service.next g.S.Service.answer g.S.Service.key_of) c.args.self.now
    c.self.view_is w stands c.args.k c.args.change.now c.in_ok-stand.ensures.fault c.change_to.new.self
    c.commit_change.new.self c.in_default.ensures.fault c.in_default.ensures.made c.commit_change.ensures
