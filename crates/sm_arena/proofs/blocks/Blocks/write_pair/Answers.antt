use Rattle.std.proofs.Common.{length, arith}
use Rattle.sm_arena.specs.Chunks.{chunks_of}
use Rattle.sm_arena.proofs.Chunks.{writes, writes_next, writes_nothing}
use Rattle.sm_arena.proofs.blocks.Blocks.write_pair.Goals as goal

pub returns-then-length-eq0-clause-written : goal.returns-then-length-eq0-clause-written
returns-then-length-eq0-clause-written c = record {
  middle = chunks_of c.args.self.now;
  one = writes_nothing (chunks_of c.args.self.now) c.args.first.now (omega arith);
  other = writes_nothing (chunks_of c.args.self.now) c.args.second.now (omega arith);
}

pub fill-second_span-requires : goal.fill-second_span-requires
fill-second_span-requires c =
    c.fill-first_span.ensures.filled.room (length c.args.second.now) c.in_ok-chunk.ensures.room

pub returns-clause-written : goal.returns-clause-written
returns-clause-written c =
    let first = c.fill-first_span.ensures.filled in
    let room = first.room (length c.args.second.now) c.in_ok-chunk.ensures.room in
    rw (c.fill-first_span.ensures.span, c.fill-second_span.ensures.span) (record {
      middle = chunks_of c.fill-first_span.new.self;
      one = writes (chunks_of c.args.self.now) c.block_for.new.self.blocks.items c.fill-first_span.new.self.blocks.items
          c.block_for.ensures.grown.0 c.in_ok-chunk.chunk c.args.first.now c.block_for.ensures.grown.1
          c.in_ok-chunk.ensures.room.0 first;
      other = writes_next c.fill-first_span.new.self.blocks.items c.fill-second_span.new.self.blocks.items
          c.in_ok-chunk.chunk c.args.second.now room.0 c.fill-second_span.ensures.filled;
    })
