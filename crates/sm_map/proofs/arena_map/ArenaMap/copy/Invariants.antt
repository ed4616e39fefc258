use Rattle.std.proofs.Common.{◌≡◌, ◌-◌, length, take}
use Rattle.sm_map.specs.Blocks.{number_of, IsPacked, IsStop}
use Rattle.sm_map.proofs.arena_map.ArenaMap.copy.Given as goal

abbrev pub invariant-loop-place : goal.invariant-loop-place
invariant-loop-place l = record {
  stop : IsStop l.self.blocks l.place;
  pairs : l.map.pairs ≡ take (number_of l.self.blocks l.place) l.self.pairs;
  dead : l.map.dead ≡ 0;
  filled : IsPacked l.map.blocks;
}

abbrev pub decreases-loop-place : goal.decreases-loop-place
decreases-loop-place l = length l.self.pairs - number_of l.self.blocks l.place
