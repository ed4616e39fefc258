use Rattle.std.proofs.Common.{ap, arith}
use Rattle.sm_arena.specs.Value.{live_of, dead_of}
use Rattle.sm_arena.proofs.Sizes.{covered}
use Rattle.sm_arena.proofs.arena.Arena.held.Goals as goal

pub returns-clause-covers : goal.returns-clause-covers
returns-clause-covers c = omega (
  arith,
  c.self.invariant.live,
  c.self.invariant.dead,
  c.self.invariant.bounded,
  covered c.self.inside.blocks.blocks.items,
  c.held.ensures,
  ap live_of c.self.view_is,
  ap dead_of c.self.view_is,
)
