use Rattle.sm_body.specs.Service.{meaning_of}
use Rattle.sm_table.proofs.Routing.{route_read}
use Rattle.sm_table.proofs.world.World.route_of.Goals as goal

pub returns-clause-stands : goal.returns-clause-stands
returns-clause-stands g c = λ w stands.
    route_read (meaning_of g.S.Service.initial g.S.Service.next g.S.Service.answer g.S.Service.key_of) c.args.self.now
    c.self.view_is w stands c.args.key.now _ _ c.shard_of-k.ensures.value c.route.ensures
