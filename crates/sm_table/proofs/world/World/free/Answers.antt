use Rattle.std.proofs.Common.{◌<◌, length, refl, arith}
use Rattle.sm_body.specs.Service.{meaning_of}
use Rattle.sm_table.proofs.Fitting.{IsTogether-done}
use Rattle.sm_table.proofs.Holding.{hand-from_alone, not_freed, freed_by}
use Rattle.sm_table.proofs.world.World.free.Goals as goal

pub returns-then-not-let_go-clause-stands : goal.returns-then-not-let_go-clause-stands
returns-then-not-let_go-clause-stands g c = λ w stands.
    let within : c.args.k < length c.self.inside.table.records = omega arith in
    not_freed (meaning_of g.S.Service.initial g.S.Service.next g.S.Service.answer g.S.Service.key_of) c.args.self.now
    c.self.view_is w stands c.args.k within c.let_go.new.self c.if-not-let_go.ensures.alone
    c.if-not-let_go.ensures.hands

pub done-requires-clause-admitted : goal.done-requires-clause-admitted
done-requires-clause-admitted g c =
    c.self.invariant.admitted c.args.k _ (hand-from_alone _ c.if-not-let_go.ensures.alone).1

pub invariant_of-self-2 : goal.invariant_of-self-2
invariant_of-self-2 g c =
    let within : c.args.k < length c.self.inside.in_hand = omega (arith, c.self.invariant.table) in
    IsTogether-done c.self.invariant c.args.k c.done.new.self c.self.inside.bodies c.let_go.new.self within
    c.done.ensures.done c.if-not-let_go.ensures.hands refl

pub returns-clause-stands : goal.returns-clause-stands
returns-clause-stands g c = λ w stands.
    let within : c.args.k < length c.self.inside.table.records = omega arith in
    let alone = hand-from_alone _ c.if-not-let_go.ensures.alone in
    freed_by (meaning_of g.S.Service.initial g.S.Service.next g.S.Service.answer g.S.Service.key_of) c.args.self.now
    c.self.view_is w stands c.args.k within alone.0 c.done.new.self c.let_go.new.self alone.1 c.done.ensures.done
    c.if-not-let_go.ensures.hands
