use Rattle.std.proofs.Common.{sym}
use Rattle.sm_body.specs.Service.{meaning_of}
use Rattle.sm_table.proofs.Fitting.{IsTogether-sent}
use Rattle.sm_table.proofs.Parts.{within_inside}
use Rattle.sm_table.proofs.Sends.{not_sent, sent}
use Rattle.sm_table.proofs.world.World.send.Goals as goal

pub returns-then-is_err-clause-stands : goal.returns-then-is_err-clause-stands
returns-then-is_err-clause-stands g c = λ w stands.
    let refused = c.if-is_err.ensures.negation in
    not_sent (meaning_of g.S.Service.initial g.S.Service.next g.S.Service.answer g.S.Service.key_of) c.args.self.now
    c.self.view_is w stands c.args.to c.args.number c.args.request _ (rw refused at c.push.ensures.items)

pub invariant_of-self-2 : goal.invariant_of-self-2
invariant_of-self-2 g c =
    let pushed = c.if-is_err.ensures.negation in
    let below = within_inside c.args.self.now c.self.view_is c.args.k c.requires.within in
    IsTogether-sent c.self.invariant c.args.k c.args.to c.args.number c.args.request c.new.result c.push.new.self.items
    below c.new.ensures (rw pushed at c.push.ensures.items)

pub returns-clause-stands : goal.returns-clause-stands
returns-clause-stands g c = λ w stands.
    let pushed = c.if-is_err.ensures.negation in
    sent (meaning_of g.S.Service.initial g.S.Service.next g.S.Service.answer g.S.Service.key_of) c.args.self.now
    c.self.view_is w stands c.args.to c.args.number c.args.request c.args.k c.new.result c.push.new.self.items
    (sym c.if-not-knows.ensures) (sym c.if-not-reaches.ensures) c.requires.shard c.new.ensures
    (rw pushed at c.push.ensures.items)
