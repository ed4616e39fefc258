use Rattle.std.proofs.Common.{◌≡◌, List, length}
use Rattle.sm_ownership.specs.declared.entry.Entry.{Entry}
use Rattle.sm_rule.specs.Views.{Begins}
use Rattle.sm_cluster.specs.Holding.{AreEndedIn, HoldsShard}
use Rattle.sm_cluster.proofs.Holding.{EachHold}
use Rattle.sm_cluster.proofs.holds.Holds.end.Given as goal

-- a history that extends everything that the pass has seen, and has the ends of the remaining holds, has the ends of
-- all
abbrev pub invariant-loop-slot : goal.invariant-loop-slot
invariant-loop-slot g l = record {
  board : l.closer.board ≡ l.board;
  held : l.closer.held ≡ l.fn.closer.held;
  seen : Begins l.fn.closer.seen l.closer.seen;
  left : EachHold (λ shard pass. (pass.board ≡ l.board) × HoldsShard pass shard) l.slots.items;
  ended : (history : List (Entry g.row.S-Request.Denot)) → Begins l.closer.seen history
      → AreEndedIn history l.slots.items → AreEndedIn history l.fn.self;
}

abbrev pub decreases-loop-slot : goal.decreases-loop-slot
decreases-loop-slot g l = length l.slots.items
