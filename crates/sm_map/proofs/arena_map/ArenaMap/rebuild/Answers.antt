use Rattle.std.proofs.Common.{rules}
use Rattle.sm_map.proofs.arena_map.ArenaMap.rebuild.Goals as goal

pub returns-in-Ok-clause-ok : goal.returns-in-Ok-clause-ok
returns-in-Ok-clause-ok c = search rules
