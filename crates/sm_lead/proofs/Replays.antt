-- The parts of a desk's rows that stay.
use Rattle.std.proofs.Common.{◌≡◌, ap, ◌∙◌}
use Rattle.sm_desk.specs.declared.command.Command.{Command}
use Rattle.sm_desk.specs.Desk.{DeskView, commanded}
use Rattle.sm_lead.specs.Placements.{HasRowsOf, rows_of}
use Rattle.sm_lead.proofs.Agreement.{rows_commanded}

pub rows_after : (old mid new : DeskView) → HasRowsOf old mid → HasRowsOf mid new → HasRowsOf old new
rows_after old mid new first second =
    record { rows = second.rows ∙ first.rows; caps = second.caps ∙ first.caps }

pub rows_made : (old new : DeskView) (command : Command) → new ≡ commanded old command → HasRowsOf old new
rows_made old new command is = record {
  rows = ap (λ (d : DeskView). rows_of d.books) is ∙ rows_commanded old.books command;
  caps = ap (λ (d : DeskView). d.caps) is;
}
