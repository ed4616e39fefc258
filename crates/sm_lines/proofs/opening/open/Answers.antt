use Rattle.sm_lines.proofs.Openings.{end_opening, line_opening, long_opening}
use Rattle.sm_lines.proofs.opening.open.Goals as goal

pub returns-in-Ok-Line-clause-opening : goal.returns-in-Ok-Line-clause-opening
returns-in-Ok-Line-clause-opening g c =
    line_opening c.args.dialogue.now.reading c.next_line.new.self.reading c.in-Ok-Line.field-0
    c.in-Ok-Line.field-0-is c.in-Ok-Line.ensures.took

pub returns-in-Ok-LongLine-clause-opening : goal.returns-in-Ok-LongLine-clause-opening
returns-in-Ok-LongLine-clause-opening g c =
    long_opening c.args.dialogue.now.reading c.next_line.new.self.reading c.in-Ok-LongLine.field-0
    c.in-Ok-LongLine.field-0-is c.in-Ok-LongLine.ensures.took

pub returns-in-Ok-End-clause-opening : goal.returns-in-Ok-End-clause-opening
returns-in-Ok-End-clause-opening g c =
    end_opening c.args.dialogue.now.reading c.next_line.new.self.reading c.in-Ok-End.field-0 c.in-Ok-End.field-0-is
    c.in-Ok-End.ensures.took

pub returns-in-Ok-LongLine-clause-unfailed : goal.returns-in-Ok-LongLine-clause-unfailed
returns-in-Ok-LongLine-clause-unfailed g c = λ _. c.in-Ok-LongLine.ensures.unfailed (λ e. cc)
