use Rattle.std.proofs.Common.{◌≡◌, ◌-◌, ◌≤◌, length, take}
use Rattle.std.specs.Io.KnownBytes.{Appends}
use Rattle.sm_lines.proofs.piece_writer.write_whole.Given as goal

abbrev pub invariant-loop-at : goal.invariant-loop-at
invariant-loop-at g l = record {
  inside : l.at ≤ length l.bytes;
  wrote : Appends (g.W.Write.contents l.fn.writer.inner) (g.W.Write.contents l.writer.inner) (take l.at l.bytes);
  unfailed : l.writer.failed ≡ l.fn.writer.failed;
}

abbrev pub decreases-loop-at : goal.decreases-loop-at
decreases-loop-at g l = length l.bytes - l.at
