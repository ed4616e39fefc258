use Rattle.std.proofs.Common.{rules, ◌≡◌, ◌+◌, ◌++◌, List, ℕ, length, ap, ◌∙◌, arith}
use Rattle.std.proofs.lemmas.List.{length-append}
use Rattle.sm_arena.specs.Blocks.{bytes_at}
use Rattle.sm_arena.specs.Chunks.{chunks_of}
use Rattle.sm_arena.proofs.Chunks.{writes, fills_both, grown_reads}
use Rattle.sm_arena.proofs.blocks.Blocks.write_joined.Goals as goal

pub fill-requires : goal.fill-requires
fill-requires c =
    let sum : c.in_ok-length.length ≡ c.args.head.length + length c.args.tail.now = search rules in
    let same = ap length (grown_reads (chunks_of c.args.self.now)
    (chunks_of c.block_for.new.self) c.block_for.ensures.grown.0 c.block_for.ensures.grown.1 c.args.head) in
    c.copy.ensures.room (length c.args.tail.now) (
      c.in_ok-chunk.ensures.room.0,
      λ d. omega (arith, c.in_ok-chunk.ensures.room.1 d, sum, same, c.requires),
    )

pub returns-clause-written : goal.returns-clause-written
returns-clause-written c =
    let sum : c.in_ok-length.length ≡ c.args.head.length + length c.args.tail.now = search rules in
    let same = grown_reads (chunks_of c.args.self.now)
    (chunks_of c.block_for.new.self) c.block_for.ensures.grown.0 c.block_for.ensures.grown.1 c.args.head in
    let head : List ℕ = bytes_at (chunks_of c.args.self.now) c.args.head in
    let size : c.in_ok-length.length ≡ length (head ++ c.args.tail.now) =
    omega (arith, sum, c.requires, length-append head c.args.tail.now) in
    let both = fills_both c.block_for.new.self.blocks.items c.copy.new.self.blocks.items c.fill.new.self.blocks.items
    c.in_ok-chunk.chunk (bytes_at (chunks_of c.block_for.new.self) c.args.head) c.args.tail.now
    c.in_ok-chunk.ensures.room.0 c.copy.ensures c.fill.ensures.filled in
    rw (c.written-start.ensures, size) (
    writes (chunks_of c.args.self.now) c.block_for.new.self.blocks.items c.fill.new.self.blocks.items
    c.block_for.ensures.grown.0 c.in_ok-chunk.chunk
    (head ++ c.args.tail.now) c.block_for.ensures.grown.1 c.in_ok-chunk.ensures.room.0
    (rw same at both)
    )

pub copy-requires-clause-inside : goal.copy-requires-clause-inside
copy-requires-clause-inside c = ap length (grown_reads (chunks_of c.args.self.now)
    (chunks_of c.block_for.new.self) c.block_for.ensures.grown.0 c.block_for.ensures.grown.1 c.args.head) ∙ c.requires
