use Rattle.std.proofs.Common.{rules, ◌≤◌, length}
use Rattle.sm_arena.specs.Chunks.{chunks_of}
use Rattle.sm_arena.proofs.Chunks.{writes, writes_nothing}
use Rattle.sm_arena.proofs.blocks.Blocks.write.Goals as goal

pub returns-then-is_empty-clause-written : goal.returns-then-is_empty-clause-written
returns-then-is_empty-clause-written c =
    let none : length c.args.piece.now ≤ 0 = search rules in
    writes_nothing (chunks_of c.args.self.now) c.args.piece.now none

pub returns-clause-written : goal.returns-clause-written
returns-clause-written c =
    rw c.fill.ensures.span (
    writes (chunks_of c.args.self.now) c.block_for.new.self.blocks.items c.fill.new.self.blocks.items
    c.block_for.ensures.grown.0 c.in_ok-chunk.chunk c.args.piece.now c.block_for.ensures.grown.1
    c.in_ok-chunk.ensures.room.0 c.fill.ensures.filled
    )
