use Rattle.std.proofs.Common.{◌≡◌, ◌≤◌, ◌+◌, ◌-◌, length, map}
use Rattle.std.specs.List.{between}
use Rattle.sm_map.specs.Val.{row_of}
use Rattle.sm_map.specs.Blocks.{number_of, IsStop}
use Rattle.sm_map.proofs.arena_map.ArenaMap.scan.Given as goal

abbrev pub invariant-loop-self : goal.invariant-loop-self
invariant-loop-self l = record {
  stop : IsStop l.self.blocks l.place;
  rows : map row_of l.rows.items
      ≡ between (number_of l.self.blocks l.initial.place) (number_of l.self.blocks l.place) l.self.pairs;
  count : number_of l.self.blocks l.place ≡ number_of l.self.blocks l.initial.place + length l.rows.items;
  bounded : length l.rows.items ≤ number_of l.self.blocks l.end - number_of l.self.blocks l.initial.place;
  most : length l.rows.items ≤ l.max;
}

abbrev pub decreases-loop-self : goal.decreases-loop-self
decreases-loop-self l = l.max - length l.rows.items
