use Rattle.std.proofs.Common.{refl}
use Rattle.sm_settings.specs.SettingsLine.{values_of}
use Rattle.sm_model.proofs.Beginnings.{is_at_begin}
use Rattle.sm_model.proofs.world_backend.WorldBackend.new.Goals as goal

pub new-requires-clause-vacant : goal.new-requires-clause-vacant
new-requires-clause-vacant c = λ _. c.in_ok-desk.ensures.vacant

pub returns : goal.returns
returns c =
    is_at_begin (values_of c.args.settings) c.args.settings.layout c.in_ok-desk.desk c.in_ok-bodies.bodies.items
    c.count-count.result c.in_ok-world.world
    refl
    c.in_ok-desk.ensures.desk
    c.in_ok-bodies.ensures
    c.count-count.ensures.value
    c.in_ok-world.ensures
