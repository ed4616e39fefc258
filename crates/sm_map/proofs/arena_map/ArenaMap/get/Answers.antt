use Rattle.std.proofs.Common.{rules}
use Rattle.sm_map.proofs.arena_map.ArenaMap.get.Goals as goal

pub returns : goal.returns
returns c = search rules
