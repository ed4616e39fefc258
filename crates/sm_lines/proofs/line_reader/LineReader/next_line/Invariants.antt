use Rattle.std.proofs.Common.{◌≡◌, ◌-◌, Contains}
use Rattle.sm_lines.specs.Reading.{IsUncalled}
use Rattle.sm_lines.specs.declared.watch.TheConstants.{COUNT_LIMIT}
use Rattle.sm_lines.proofs.LineLemmas.{SoFar}
use Rattle.sm_lines.proofs.line_reader.LineReader.next_line.Given as goal

abbrev pub invariant-pieces : goal.invariant-pieces
invariant-pieces g l = record {
  so_far : SoFar l.fn.self l.self l.is_long l.limit;
  unfailed : l.self.failed ≡ l.fn.self.failed;
  same_end : l.self.ended ≡ l.fn.self.ended;
  held : Contains l.fn.self.held 10 → (l.self.held ≡ l.fn.self.held) × IsUncalled l.fn.self l.self;
}

abbrev pub decreases-pieces : goal.decreases-pieces
decreases-pieces g l = COUNT_LIMIT - l.self.calls
