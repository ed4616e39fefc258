use Rattle.std.proofs.Common.{sym}
use Rattle.sm_arena.proofs.Chunks.{fills}
use Rattle.sm_arena.proofs.blocks.Blocks.fill.Goals as goal

pub returns-clause-filled : goal.returns-clause-filled
returns-clause-filled c =
    fills c.args.self.now.blocks.items c.args.place c.args.piece.now c.requires.0 c.index_mut.result.now
    c.write-length.new.self (sym c.index_mut.ensures.value) c.write-length.ensures.bytes c.write-length.ensures.limit
    c.write-length.ensures.made c.write-length.ensures.joined

pub invariant_of-self : goal.invariant_of-self
invariant_of-self c =
    let same = fills c.args.self.now.blocks.items c.args.place c.args.piece.now c.requires.0 c.index_mut.result.now
    c.write-length.new.self
    (sym c.index_mut.ensures.value) c.write-length.ensures.bytes c.write-length.ensures.limit
    c.write-length.ensures.made c.write-length.ensures.joined in
    rw (same.sizes, same.joined) (record { tied = c.args.self.now.tied })
