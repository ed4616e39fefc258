use Rattle.std.proofs.Common.{arith, ◌+◌, ◌≤◌}
use Rattle.std.proofs.lemmas.Grind.{common_steps}
use Rattle.sm_lines.proofs.Pieces.{range_drop}
use Rattle.sm_lines.proofs.line_reader.LineReader.drop_line_feed.Goals as goal

pub returns : goal.returns
returns g c =
    let r = c.self.inside in
    let some = rw (← c.self.view_is) at c.requires in
    let inside : r.at + 1 ≤ r.end = grind (arith, common_steps, some) in
    rw (← c.self.view_is, range_drop r.piece.items r.at 1 r.end inside)
