use Rattle.std.proofs.Common.{◌≡◌, ℕ, ◌+◌, ◌-◌, ◌<◌, length, sum, take, refl, sym, subst, arith}
use Rattle.std.specs.List.{AllWithin}
use Rattle.std.specs.declared.cmp.Ordering.TheVariants.{Less, Greater}
use Rattle.sm_ranges.specs.KeyOrder.{key_cmp}
use Rattle.sm_map.specs.KeyMap.{KeyPair}
use Rattle.sm_map.specs.KeyEntry.{pairs_of}
use Rattle.sm_map.specs.Block.{BlockValue}
use Rattle.sm_map.specs.Blocks.{entries_in, lengths_in, IsSized}
use Rattle.sm_map.proofs.Blocks.{blocks_counted}
use Rattle.sm_map.proofs.Search.{none_after, first_placed, first_less, first_equal, first_greater}
use Rattle.sm_map.proofs.index.search.Goals as goal

pub loop-low-init : goal.loop-low-init
loop-low-init c = record {
  ordered = omega arith;
  within = omega arith;
  before = λ some. absurd (omega (arith, some));
  after = none_after c.args.arena.now.placed c.args.blocks.now c.args.key.now;
}

pub get-requires : goal.get-requires
get-requires c =
    let middle = c.probe-middle.result in
    let lt : middle < length c.args.blocks.now = omega (arith, c.loop-low-test.true, c.loop-low.invariant.within) in
    let some = (subst (λ (x : BlockValue). IsSized x) (sym c.index-blocks-middle.is)
    (c.requires.filled middle c.index-blocks-middle.result lt)).0 in
    first_placed _ _ c.args.key.now c.requires.rising middle lt _ c.index-blocks-middle.is some _ c.entry.ensures _ refl
    c.requires.keys

pub loop-low-preserved-in-Less : goal.loop-low-preserved-in-Less
loop-low-preserved-in-Less c =
    let middle = c.probe-middle.result in
    let lt : middle < length c.args.blocks.now = omega (arith, c.loop-low-test.true, c.loop-low.invariant.within) in
    let some = (subst (λ (x : BlockValue). IsSized x) (sym c.index-blocks-middle.is)
    (c.requires.filled middle c.index-blocks-middle.result lt)).0 in
    let one : middle ≡ (middle + 1) - 1 = omega arith in
    record {
      ordered = omega (arith, c.loop-low-test.true);
      within = c.loop-low.invariant.within;
      before = λ _. subst (λ (n : ℕ). AllWithin (λ (pair : KeyPair). key_cmp pair.key c.args.key.now ≡ Less)
          (pairs_of c.args.arena.now.placed (entries_in c.args.blocks.now)) 0
          (sum (take n (lengths_in c.args.blocks.now)) + 1)) one (first_less _ _ c.args.key.now c.requires.rising middle
          lt _ c.index-blocks-middle.is some _ c.entry.ensures _ c.get.ensures c.in-Less.ensures);
      after = c.loop-low.invariant.after;
    }

pub returns-in-Equal-clause-found : goal.returns-in-Equal-clause-found
returns-in-Equal-clause-found c =
    let middle = c.probe-middle.result in
    let lt : middle < length c.args.blocks.now = omega (arith, c.loop-low-test.true, c.loop-low.invariant.within) in
    let some = (subst (λ (x : BlockValue). IsSized x) (sym c.index-blocks-middle.is)
    (c.requires.filled middle c.index-blocks-middle.result lt)).0 in
    first_equal _ _ c.args.key.now c.requires.rising middle lt _ c.index-blocks-middle.is some _ c.entry.ensures _
    c.get.ensures c.in-Equal.ensures

pub loop-low-preserved : goal.loop-low-preserved
loop-low-preserved c =
    let middle = c.probe-middle.result in
    let lt : middle < length c.args.blocks.now = omega (arith, c.loop-low-test.true, c.loop-low.invariant.within) in
    let some = (subst (λ (x : BlockValue). IsSized x) (sym c.index-blocks-middle.is)
    (c.requires.filled middle c.index-blocks-middle.result lt)).0 in
    record {
      ordered = omega arith;
      within = omega (arith, lt);
      before = c.loop-low.invariant.before;
      after = first_greater _ _ c.args.key.now c.requires.rising middle lt _ c.index-blocks-middle.is some _
          c.entry.ensures _ c.get.ensures c.in-Greater.ensures;
    }

pub returns-clause-absent : goal.returns-clause-absent
returns-clause-absent c =
    let same : c.loop-low.high ≡ c.loop-low.low = omega (arith, c.loop-low-test.false, c.loop-low.invariant.ordered) in
    record {
      within =
          omega (arith, c.loop-low.invariant.ordered, c.loop-low.invariant.within, blocks_counted c.args.blocks.now);
      before = c.loop-low.invariant.before;
      after = subst (λ (n : ℕ). AllWithin (λ (pair : KeyPair). key_cmp pair.key c.args.key.now ≡ Greater) (pairs_of
          c.args.arena.now.placed (entries_in c.args.blocks.now)) (sum (take n (lengths_in c.args.blocks.now)))
          (length (pairs_of c.args.arena.now.placed (entries_in c.args.blocks.now)))) same c.loop-low.invariant.after;
    }
