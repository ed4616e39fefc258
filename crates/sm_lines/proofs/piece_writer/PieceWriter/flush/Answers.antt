use Rattle.std.proofs.Common.{[]}
use Rattle.sm_lines.proofs.Writing.{short_flush}
use Rattle.sm_lines.proofs.piece_writer.PieceWriter.flush.Goals.{in-Ok, in-Err}
use Rattle.sm_lines.proofs.piece_writer.PieceWriter.flush.Goals as goal

pub returns-clause-err : goal.returns-clause-err
returns-clause-err g c =
    let wrote = rw (← c.self.view_is) at c.in_ok-send.ensures.ok in
    elim c.match-flush.branch [
      | in-Ok w ↦ rw w.result-is tt
      | in-Err w ↦ rw w.result-is (short_flush c.args.self.now _ _ [] wrote c.flush.ensures.bytes wrote.1
          w.in-Err.ensures.failed)
    ]
