use Rattle.sm_place.proofs.Rooms.{stays-fit, HasRoom-named, HasRoom-serving, HasRoom-prepared}
use Rattle.sm_place.proofs.laws.fit_leaves_room.Goals as goal

pub returns : goal.returns
returns c = record {
  stays = stays-fit;
  named = HasRoom-named;
  serving = HasRoom-serving;
  prepared = HasRoom-prepared;
}
