use Rattle.std.proofs.Common.{◌≡◌, None}
use Rattle.sm_place.specs.Sound.{AreSound}
use Rattle.sm_tasks.specs.Caps.{MeetsCaps}
use Rattle.sm_desk.specs.declared.command.Command.{Command}
use Rattle.sm_desk.specs.declared.command.Command.TheVariants.{Change, Ask, Approve, Stopped, Back, Fail}
use Rattle.sm_desk.specs.Desk.{DeskView, books_commanded, desk_fault}
use Rattle.sm_desk.specs.lemmas.Changes.{let_through}
use Rattle.sm_desk.proofs.Holding.{restart_through, stand_of, takes_none_leaving}
use Rattle.sm_desk.proofs.laws.commands_keep_caps.Goals as goal

pub returns : goal.returns
returns c = keep
  where
    keep : (desk : DeskView) (command : Command) → AreSound desk.books → MeetsCaps desk.caps desk.books
        → desk_fault desk command ≡ None → MeetsCaps desk.caps (books_commanded desk.books command)
    keep desk (Change k change) sound caps e =
        let through = let_through desk.books k change e in
        c.stands_keep_caps.ensures.taken desk.caps desk.books k (stand_of desk.books k change) through.within
        (takes_none_leaving c.fit_leaves_room.ensures.stays desk.books k change through) caps
    keep desk (Ask a) sound caps e =
        let t = restart_through desk.books a _ e in
        c.steps_keep_caps.ensures.ask desk.caps desk.books a sound.states t.0 caps
    keep desk (Approve a) sound caps e =
        let t = restart_through desk.books a _ e in
        c.steps_keep_caps.ensures.approve desk.caps desk.books a sound.states t.0 t.1 caps
    keep desk (Stopped a) sound caps e =
        let t = restart_through desk.books a _ e in
        c.steps_keep_caps.ensures.stopped desk.caps desk.books a sound.states t.0 t.1 caps
    keep desk (Back a) sound caps e =
        let t = restart_through desk.books a _ e in
        c.steps_keep_caps.ensures.back desk.caps desk.books a sound.states t.0 caps
    keep desk (Fail a) sound caps e =
        let t = restart_through desk.books a _ e in
        c.steps_keep_caps.ensures.fail desk.caps desk.books a sound.states t.0 caps
