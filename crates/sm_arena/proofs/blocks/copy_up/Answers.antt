use Rattle.std.proofs.Common.{◌≡◌, ℕ, List, ◌++◌, get_or, sym, ap, ◌∙◌}
use Rattle.sm_arena.specs.declared.arena_block.ArenaBlock.{ArenaBlock}
use Rattle.sm_arena.specs.Blocks.{written_in, chunks_in, bytes_at}
use Rattle.sm_arena.proofs.Chunks.{reads_earlier, fills_behind}
use Rattle.sm_arena.proofs.blocks.copy_up.Goals as goal

pub returns : goal.returns
returns c =
    let rest = c.split_at_mut-before.result.1.now in
    let block = get_or rest 0 c.index-rest-0.result in
    let same : get_or rest 0 block ≡ block = ap (λ (b : ArenaBlock). get_or rest 0 b) (sym c.index-rest-0.is) in
    let reads : c.piece_in.result.now ≡ bytes_at (chunks_in c.args.blocks.now) c.args.span =
    c.piece_in.ensures
    ∙ (ap (λ (l : List ArenaBlock). bytes_at (chunks_in l) c.args.span) c.split_at_mut-before.ensures.front
    ∙ reads_earlier c.args.blocks.now c.args.place c.args.span c.requires.earlier) in
    fills_behind c.args.blocks.now c.split_at_mut-before.result.0.now rest c.args.place
    (bytes_at (chunks_in c.args.blocks.now) c.args.span) block c.write.new.self c.split_at_mut-before.ensures.value
    c.split_at_mut-before.ensures.front_len c.requires.room.0 same
    (c.write.ensures.bytes ∙ ap (λ (l : List ℕ). (written_in block) ++ l) reads) c.write.ensures.limit
    c.write.ensures.made c.write.ensures.joined
