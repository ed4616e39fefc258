use Rattle.std.proofs.Common.{◌+◌, List, sum, sym, ap, subst, ◌∙◌, arith}
use Rattle.sm_arena.specs.declared.arena_block.ArenaBlock.{ArenaBlock}
use Rattle.sm_arena.specs.Memory.{size_in}
use Rattle.sm_arena.specs.Blocks.{EndsJoined}
use Rattle.sm_arena.specs.Sizes.{sizes_in, joined_in, next_size}
use Rattle.sm_arena.proofs.Chunks.{last_joined}
use Rattle.sm_arena.proofs.Sizes.{joined_sizes, joined_more, joined_held}
use Rattle.sm_arena.proofs.blocks.Blocks.part.Goals as goal

pub into_bytes-requires : goal.into_bytes-requires
into_bytes-requires c =
    last_joined c.take_last-block.new.self.items c.take_last-block.result
    (subst EndsJoined c.take_last-block.ensures.items c.requires.joined)

pub invariant_of-self : goal.invariant_of-self
invariant_of-self c =
    let now = c.take_last-block.new.self.items in
    let items = c.take_last-block.ensures.items in
    let is = last_joined now c.take_last-block.result (subst EndsJoined items c.requires.joined) in
    let least = c.args.self.now.tied.0
    ∙ ap next_size (ap sizes_in items ∙ joined_sizes now c.take_last-block.result is) in
    record {
      tied = (
        least,
        omega (
          arith,
          c.args.self.now.tied.1,
          ap (λ (l : List ArenaBlock). sum (sizes_in l) + sum (joined_in l)) items,
          joined_held now c.take_last-block.result is,
          c.size.ensures,
        ),
      );
    }

pub returns-clause-sizes : goal.returns-clause-sizes
returns-clause-sizes c =
    let now = c.take_last-block.new.self.items in
    let items = c.take_last-block.ensures.items in
    let is = last_joined now c.take_last-block.result (subst EndsJoined items c.requires.joined) in
    sym (ap sizes_in items ∙ joined_sizes now c.take_last-block.result is)

pub returns-clause-joined : goal.returns-clause-joined
returns-clause-joined c =
    let now = c.take_last-block.new.self.items in
    let items = c.take_last-block.ensures.items in
    let is = last_joined now c.take_last-block.result (subst EndsJoined items c.requires.joined) in
    (size_in c.take_last-block.result.memory, ap joined_in items ∙ joined_more now c.take_last-block.result is)
