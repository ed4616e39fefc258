use Rattle.std.proofs.Common.{subst, sym, arith}
use Rattle.sm_ranges.specs.Keyed.{IsKeyPlace}
use Rattle.sm_map.specs.KeyMap.{key_of, IsKeyMap}
use Rattle.sm_map.specs.KeyEntry.{pairs_of, HasKeys}
use Rattle.sm_map.specs.Index.{IndexValue}
use Rattle.sm_map.specs.Blocks.{entries_in, lengths_in, number_of}
use Rattle.sm_map.proofs.Search.{block_rises, block_keys, found_in_block}
use Rattle.sm_map.proofs.index.Index.find_guessed.Goals as goal

pub find_tagged-requires-clause-keys : goal.find_tagged-requires-clause-keys
find_tagged-requires-clause-keys c =
    block_keys c.args.arena.now.placed c.self.inside.blocks.items c.args.block
    (omega (arith, c.len.ensures, c.if-block-len.false, c.self.inside.blocks.ok.0)) c.index.result.now c.index.ensures
    (subst (λ (x : IndexValue). HasKeys c.args.arena.now.placed (entries_in x.blocks)) (sym c.self.view_is)
    c.requires.keys)

pub find_tagged-requires-clause-rising : goal.find_tagged-requires-clause-rising
find_tagged-requires-clause-rising c =
    block_rises c.args.arena.now.placed c.self.inside.blocks.items c.args.block
    (omega (arith, c.len.ensures, c.if-block-len.false, c.self.inside.blocks.ok.0)) c.index.result.now c.index.ensures
    (subst (λ (x : IndexValue). IsKeyMap (pairs_of c.args.arena.now.placed (entries_in x.blocks)))
    (sym c.self.view_is) c.requires.rising)

pub returns-in-Some-clause-found : goal.returns-in-Some-clause-found
returns-in-Some-clause-found c =
    subst (λ (x : IndexValue). IsKeyPlace key_of (pairs_of c.args.arena.now.placed (entries_in x.blocks)) c.args.key.now
    (number_of (lengths_in x.blocks) (record { block = c.args.block; offset = c.in-Some.offset }))) c.self.view_is
    (found_in_block c.args.arena.now.placed c.self.inside.blocks.items c.args.block
    (omega (arith, c.len.ensures, c.if-block-len.false, c.self.inside.blocks.ok.0)) c.index.result.now c.index.ensures
    c.args.key.now c.in-Some.offset c.in-Some.ensures)
