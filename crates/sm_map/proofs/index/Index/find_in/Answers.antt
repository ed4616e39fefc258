use Rattle.std.proofs.Common.{◌<◌, ◌+◌, length, subst, sym, arith}
use Rattle.sm_ranges.specs.Keyed.{IsKeyPlace, IsKeyGap}
use Rattle.sm_map.specs.KeyMap.{key_of, IsKeyMap}
use Rattle.sm_map.specs.KeyEntry.{pairs_of, HasKeys}
use Rattle.sm_map.specs.Index.{IndexValue}
use Rattle.sm_map.specs.Blocks.{entries_in, lengths_in, number_of, IsBlockGap}
use Rattle.sm_map.proofs.Blocks.{blocks_counted}
use Rattle.sm_map.proofs.Search.{block_rises, block_keys, found_in_block, absent_in_block}
use Rattle.sm_map.proofs.index.Index.find_in.Goals as goal

pub find-requires-clause-keys : goal.find-requires-clause-keys
find-requires-clause-keys c = block_keys c.args.arena.now.placed c.self.inside.blocks.items c.args.block (omega (
  arith,
  subst (λ (x : IndexValue). c.args.block < length (lengths_in x.blocks)) (sym c.self.view_is) c.requires.within,
  blocks_counted c.self.inside.blocks.items,
)) c.index.result.now c.index.ensures (subst
    (λ (x : IndexValue). HasKeys c.args.arena.now.placed (entries_in x.blocks)) (sym c.self.view_is) c.requires.keys)

pub find-requires-clause-rising : goal.find-requires-clause-rising
find-requires-clause-rising c =
    block_rises c.args.arena.now.placed c.self.inside.blocks.items c.args.block (omega (
      arith,
      subst (λ (x : IndexValue). c.args.block < length (lengths_in x.blocks)) (sym c.self.view_is) c.requires.within,
      blocks_counted c.self.inside.blocks.items,
    )) c.index.result.now c.index.ensures (subst (λ (x : IndexValue). IsKeyMap
    (pairs_of c.args.arena.now.placed (entries_in x.blocks))) (sym c.self.view_is) c.requires.rising)

pub returns-in-Ok-clause-found : goal.returns-in-Ok-clause-found
returns-in-Ok-clause-found c =
    subst (λ (x : IndexValue). IsKeyPlace key_of (pairs_of c.args.arena.now.placed (entries_in x.blocks)) c.args.key.now
    (number_of (lengths_in x.blocks) (record { block = c.args.block; offset = c.in-Ok.offset }))) c.self.view_is
    (found_in_block c.args.arena.now.placed c.self.inside.blocks.items c.args.block (omega (
      arith,
      subst (λ (x : IndexValue). c.args.block < length (lengths_in x.blocks)) (sym c.self.view_is) c.requires.within,
      blocks_counted c.self.inside.blocks.items,
    )) c.index.result.now c.index.ensures c.args.key.now c.in-Ok.offset
    c.in-Ok.ensures.found)

pub returns-in-Err-clause-absent : goal.returns-in-Err-clause-absent
returns-in-Err-clause-absent c =
    let between = subst (λ (x : IndexValue). IsBlockGap (pairs_of c.args.arena.now.placed (entries_in x.blocks))
    (lengths_in x.blocks) c.args.key.now (c.args.block + 1)) (sym c.self.view_is) c.requires.between in
    subst (λ (x : IndexValue). IsKeyGap key_of (pairs_of c.args.arena.now.placed (entries_in x.blocks)) c.args.key.now
    (number_of (lengths_in x.blocks) (record { block = c.args.block; offset = c.in-Err.offset }))) c.self.view_is
    (absent_in_block c.args.arena.now.placed c.self.inside.blocks.items c.args.block (omega (
      arith,
      subst (λ (x : IndexValue). c.args.block < length (lengths_in x.blocks)) (sym c.self.view_is) c.requires.within,
      blocks_counted c.self.inside.blocks.items,
    )) c.index.result.now c.index.ensures c.args.key.now c.in-Err.offset
    between c.in-Err.ensures.absent)
