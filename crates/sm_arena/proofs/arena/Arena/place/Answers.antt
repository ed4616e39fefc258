use Rattle.std.proofs.Common.{arith}
use Rattle.sm_arena.specs.Chunks.{chunks_of, sizes_of, joined_of}
use Rattle.sm_arena.proofs.Chunks.{total_fits}
use Rattle.sm_arena.proofs.Placing.{held_written, is_placing_written}
use Rattle.sm_arena.proofs.arena.Arena.place.Goals as goal

pub overflow_add-self : goal.overflow_add-self
overflow_add-self c =
    let written = c.in_ok-span.ensures.written in
    record { fits = omega (arith, c.self.invariant.bounded, written.total, total_fits c.write.new.self) }

pub invariant_of-self-2 : goal.invariant_of-self-2
invariant_of-self-2 c =
    rw c.push.ensures
    (held_written (chunks_of c.self.inside.blocks) (chunks_of c.write.new.self) (sizes_of c.self.inside.blocks)
    (sizes_of c.write.new.self) (joined_of c.self.inside.blocks) (joined_of c.write.new.self) c.self.inside.live
    c.self.inside.gone c.self.inside.placed.items
    c.self.inside.forgotten.items c.self.invariant c.in_ok-span.span c.args.piece.now c.in_ok-span.ensures.written)

pub returns-clause-placed : goal.returns-clause-placed
returns-clause-placed c =
    rw (← c.self.view_is, c.push.ensures) (
    is_placing_written (chunks_of c.self.inside.blocks) (chunks_of c.write.new.self) (sizes_of c.self.inside.blocks)
    (sizes_of c.write.new.self) (joined_of c.self.inside.blocks) (joined_of c.write.new.self) c.self.inside.live
    c.self.inside.gone c.self.inside.placed.items
    c.self.inside.forgotten.items c.self.invariant c.in_ok-span.span c.args.piece.now c.in_ok-span.ensures.written
    )
