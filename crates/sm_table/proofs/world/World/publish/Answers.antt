use Rattle.std.proofs.Common.{◌<◌, ap, arith, length}
use Rattle.std.specs.Prelude.{Some, slice_set}
use Rattle.sm_body.specs.Service.{meaning_of}
use Rattle.sm_table.proofs.Routing.{made_route, new_route, old_route}
use Rattle.sm_table.proofs.world.World.publish.Goals as goal

pub returns-then-is_old-clause-stands : goal.returns-then-is_old-clause-stands
returns-then-is_old-clause-stands g c = λ w stands.
    let within : c.args.k < length c.self.inside.table.records = omega arith in
    let made = made_route c.args.k _ _ _ _ c.record.ensures c.route.ensures c.in-Some.is in
    old_route (meaning_of g.S.Service.initial g.S.Service.next g.S.Service.answer g.S.Service.key_of) c.args.self.now
    c.self.view_is w stands c.args.k within c.in-Some.route made _ c.route-2.ensures _ c.is_old.ensures
    c.if-is_old.true

pub returns-clause-stands : goal.returns-clause-stands
returns-clause-stands g c = λ w stands.
    let within : c.args.k < length c.self.inside.table.records = omega arith in
    let made = made_route c.args.k _ _ _ _ c.record.ensures c.route.ensures c.in-Some.is in
    let put = ap (λ at. slice_set c.self.inside.routes.items at (Some c.in-Some.route)) c.index-2.ensures.value in
    new_route (meaning_of g.S.Service.initial g.S.Service.next g.S.Service.answer g.S.Service.key_of) c.args.self.now
    c.self.view_is w stands c.args.k within c.in-Some.route made _ c.route-2.ensures _ c.is_old.ensures
    c.if-is_old.false _ put
