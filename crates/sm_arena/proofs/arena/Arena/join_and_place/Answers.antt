use Rattle.std.proofs.Common.{arith}
use Rattle.sm_arena.specs.Chunks.{chunks_of, sizes_of, joined_of}
use Rattle.sm_arena.proofs.Chunks.{total_fits}
use Rattle.sm_arena.proofs.Placing.{held_pair, is_placing_pair}
use Rattle.sm_arena.proofs.arena.Arena.join_and_place.Goals as goal

pub overflow_add-self : goal.overflow_add-self
overflow_add-self c =
    let written = c.in_ok-joined_span.ensures.written in
    record {
      fits = omega (
        arith,
        c.self.invariant.bounded,
        written.one.total,
        written.other.total,
        total_fits c.join_and_write.new.self,
      );
    }

pub overflow_add-self-2 : goal.overflow_add-self-2
overflow_add-self-2 c =
    let written = c.in_ok-joined_span.ensures.written in
    record {
      fits = omega (
        arith,
        c.self.invariant.bounded,
        written.one.total,
        written.other.total,
        total_fits c.join_and_write.new.self,
      );
    }

pub invariant_of-self-2 : goal.invariant_of-self-2
invariant_of-self-2 c =
    rw (c.push-2.ensures, c.push.ensures, c.len-count.ensures, c.args.joined.ok.0) (
    held_pair (chunks_of c.self.inside.blocks) (chunks_of c.join_and_write.new.self)
    (sizes_of c.self.inside.blocks) (sizes_of c.join_and_write.new.self) (joined_of c.self.inside.blocks)
    (joined_of c.join_and_write.new.self) c.self.inside.live c.self.inside.gone
    c.self.inside.placed.items c.self.inside.forgotten.items c.self.invariant c.in_ok-joined_span.joined_span
    c.in_ok-joined_span.placed_span c.args.joined.items c.args.placed.now c.in_ok-joined_span.ensures.written
    )

pub returns-clause-placed : goal.returns-clause-placed
returns-clause-placed c =
    rw (← c.self.view_is, c.push-2.ensures, c.push.ensures) (
    is_placing_pair (chunks_of c.self.inside.blocks) (chunks_of c.join_and_write.new.self)
    (sizes_of c.self.inside.blocks) (sizes_of c.join_and_write.new.self) (joined_of c.self.inside.blocks)
    (joined_of c.join_and_write.new.self) c.self.inside.live c.self.inside.gone
    c.self.inside.placed.items c.self.inside.forgotten.items c.self.invariant c.in_ok-joined_span.joined_span
    c.in_ok-joined_span.placed_span c.args.joined.items c.args.placed.now c.in_ok-joined_span.ensures.written
    )
