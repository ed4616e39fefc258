use Rattle.std.proofs.Common.{◌≡◌, ◌≤◌, ◌-◌, length}
use Rattle.std.specs.List.{AllWithin}
use Rattle.std.specs.declared.cmp.Ordering.TheVariants.{Less, Greater}
use Rattle.sm_ranges.specs.KeyOrder.{key_cmp}
use Rattle.sm_map.specs.KeyMap.{KeyPair}
use Rattle.sm_map.specs.KeyEntry.{pairs_of}
use Rattle.sm_map.proofs.block.search.Given as goal

abbrev pub invariant-loop-low : goal.invariant-loop-low
invariant-loop-low l = record {
  ordered : l.low ≤ l.high;
  within : l.high ≤ length l.entries;
  before : AllWithin (λ (pair : KeyPair). key_cmp pair.key l.key ≡ Less) (pairs_of l.arena.placed l.entries) 0 l.low;
  after : AllWithin (λ (pair : KeyPair). key_cmp pair.key l.key ≡ Greater) (pairs_of l.arena.placed l.entries) l.high
      (length (pairs_of l.arena.placed l.entries));
}

abbrev pub decreases-loop-low : goal.decreases-loop-low
decreases-loop-low l = l.high - l.low
