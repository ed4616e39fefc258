use Rattle.std.proofs.Common.{◌≤◌, ◌-◌, take}
use Rattle.sm_arena.specs.Blocks.{bytes_at, IsFilled}
use Rattle.sm_arena.specs.Chunks.{chunks_of}
use Rattle.sm_arena.proofs.blocks.Blocks.copy.Given as goal

abbrev pub invariant-loop-copied : goal.invariant-loop-copied
invariant-loop-copied l = record {
  within : l.copied ≤ l.span.length;
  filled : IsFilled l.initial.self.blocks.items l.place
      (take l.copied (bytes_at (chunks_of l.initial.self) l.span)) l.self.blocks.items;
}

abbrev pub decreases-loop-copied : goal.decreases-loop-copied
decreases-loop-copied l = l.span.length - l.copied
