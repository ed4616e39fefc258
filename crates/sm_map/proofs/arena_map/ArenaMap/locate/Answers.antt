use Rattle.std.proofs.Common.{rules}
use Rattle.sm_map.proofs.arena_map.ArenaMap.locate.Goals as goal

pub returns-clause-position : goal.returns-clause-position
returns-clause-position c = search rules
