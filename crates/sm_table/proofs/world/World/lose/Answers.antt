use Rattle.std.proofs.Common.{◌<◌, length, arith}
use Rattle.sm_body.specs.Service.{meaning_of}
use Rattle.sm_table.proofs.Losses.{lost}
use Rattle.sm_table.proofs.world.World.lose.Goals as goal

pub returns-clause-stands : goal.returns-clause-stands
returns-clause-stands g c = λ w stands.
    let there : c.args.place < length c.self.inside.in_flight.items = omega (arith, c.self.inside.in_flight.ok.0) in
    lost (meaning_of g.S.Service.initial g.S.Service.next g.S.Service.answer g.S.Service.key_of) c.args.self.now
    c.self.view_is w stands c.args.place there c.remove.new.self.items c.remove.ensures.items
