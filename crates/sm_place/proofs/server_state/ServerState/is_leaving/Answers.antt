use Rattle.std.proofs.Common.{rules}
use Rattle.sm_place.proofs.server_state.ServerState.is_leaving.Goals as goal

pub returns-in-Up : goal.returns-in-Up
returns-in-Up c = search rules
