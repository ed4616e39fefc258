use Rattle.sm_place.proofs.Rooms.{HasRoom-fewer}
use Rattle.sm_place.proofs.laws.fewer_names_leave_room.Goals as goal

pub returns : goal.returns
returns c = HasRoom-fewer
