use Rattle.std.proofs.Common.{arith}
use Rattle.sm_arena.proofs.Sizes.{held_fits}
use Rattle.sm_arena.proofs.blocks.Blocks.grow.Goals as goal

pub overflow_add-self : goal.overflow_add-self
overflow_add-self c =
    record { fits = omega (arith, c.args.self.now.tied.1, held_fits c.args.self.now, c.ranges.size.fits) }
