use Rattle.std.proofs.Common.{◌≡◌, ◌<◌, ◌≤◌, ◌+◌, ◌-◌, length, sum, take}
use Rattle.std.specs.List.{AllWithin}
use Rattle.std.specs.declared.cmp.Ordering.TheVariants.{Less, Greater}
use Rattle.sm_ranges.specs.KeyOrder.{key_cmp}
use Rattle.sm_map.specs.KeyMap.{KeyPair}
use Rattle.sm_map.specs.KeyEntry.{pairs_of}
use Rattle.sm_map.specs.Blocks.{entries_in, lengths_in}
use Rattle.sm_map.proofs.index.search.Given as goal

abbrev pub invariant-loop-low : goal.invariant-loop-low
invariant-loop-low l = record {
  ordered : l.low ≤ l.high;
  within : l.high ≤ length l.blocks;
  before : 0 < l.low → AllWithin (λ (pair : KeyPair). key_cmp pair.key l.key ≡ Less)
      (pairs_of l.arena.placed (entries_in l.blocks)) 0 (sum (take (l.low - 1) (lengths_in l.blocks)) + 1);
  after :
      AllWithin (λ (pair : KeyPair). key_cmp pair.key l.key ≡ Greater) (pairs_of l.arena.placed (entries_in l.blocks))
      (sum (take l.high (lengths_in l.blocks))) (length (pairs_of l.arena.placed (entries_in l.blocks)));
}

abbrev pub decreases-loop-low : goal.decreases-loop-low
decreases-loop-low l = l.high - l.low
