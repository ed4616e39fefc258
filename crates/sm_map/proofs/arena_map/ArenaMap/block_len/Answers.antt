use Rattle.std.proofs.Common.{rules}
use Rattle.sm_map.proofs.arena_map.ArenaMap.block_len.Goals as goal

pub returns-clause-value : goal.returns-clause-value
returns-clause-value c = search rules
