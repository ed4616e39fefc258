use Rattle.std.proofs.Common.{◌≤◌, ◌+◌, length, take_all, subst, arith}
use Rattle.sm_arena.specs.Blocks.{bytes_at, IsFilled}
use Rattle.sm_arena.specs.Chunks.{chunks_of}
use Rattle.sm_arena.proofs.Chunks.{fills_nothing, span_fits, part_there, part_room, part_filled}
use Rattle.sm_arena.proofs.blocks.Blocks.copy.Goals as goal

pub loop-copied-init : goal.loop-copied-init
loop-copied-init c = record { within = omega arith; filled = fills_nothing c.args.self.now.blocks.items c.args.place }

pub overflow_add-part : goal.overflow_add-part
overflow_add-part c =
    record { fits = omega (arith, span_fits c.args.self.now.blocks.items c.args.span c.requires.inside (omega arith)) }

pub copy_part-requires-clause-inside : goal.copy_part-requires-clause-inside
copy_part-requires-clause-inside c =
    part_there c.args.self.now.blocks.items c.loop-copied.self.blocks.items c.args.place c.args.span
    c.loop-copied.copied c.min.result c.requires.room.0 c.requires.inside
    (omega (arith, c.min.ensures)) c.loop-copied.invariant.filled

pub copy_part-requires-clause-room : goal.copy_part-requires-clause-room
copy_part-requires-clause-room c =
    part_room c.args.self.now.blocks.items c.loop-copied.self.blocks.items c.args.place c.args.span c.loop-copied.copied
    c.min.result c.requires.room.0 c.requires.inside
    (omega (arith, c.min.ensures)) c.loop-copied.invariant.filled c.requires.room

pub loop-copied-preserved : goal.loop-copied-preserved
loop-copied-preserved c =
    let within : c.loop-copied.copied + c.min.result ≤ c.args.span.length = omega (arith, c.min.ensures) in
    record {
      within = within;
      filled = part_filled c.args.self.now.blocks.items c.loop-copied.self.blocks.items c.args.place c.args.span
          c.loop-copied.copied c.min.result c.requires.room.0 c.requires.inside within c.loop-copied.invariant.filled
          c.copy_part.new.self.blocks.items c.copy_part.ensures;
    }

pub returns : goal.returns
returns c =
    let all : length (bytes_at (chunks_of c.args.self.now) c.args.span) ≤ c.loop-copied.copied =
    omega (arith, c.requires.inside) in
    subst (λ l. IsFilled c.args.self.now.blocks.items c.args.place l c.loop-copied.self.blocks.items) (take_all
    c.loop-copied.copied (bytes_at (chunks_of c.args.self.now) c.args.span) all) c.loop-copied.invariant.filled
