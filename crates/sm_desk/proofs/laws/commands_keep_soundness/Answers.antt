use Rattle.std.proofs.Common.{◌≡◌, None}
use Rattle.sm_place.specs.Sound.{AreSound}
use Rattle.sm_place.specs.declared.server_state.ServerState.TheVariants.{Up as IsUp, Asked as IsAsked}
use Rattle.sm_place.specs.declared.server_state.ServerState.TheVariants.{Approved as IsApproved, Stopped as IsStopped}
use Rattle.sm_place.specs.declared.server_state.ServerState.TheVariants.{Failed as IsFailed}
use Rattle.sm_desk.specs.declared.command.Command.{Command}
use Rattle.sm_desk.specs.declared.command.Command.TheVariants.{Change, Ask, Approve, Stopped, Back, Fail}
use Rattle.sm_desk.specs.Desk.{DeskView, commanded, desk_fault}
use Rattle.sm_desk.specs.lemmas.Changes.{let_through}
use Rattle.sm_desk.proofs.Holding.{changes_known, changes_room, stand_of}
use Rattle.sm_desk.proofs.Sounding.{sound_stand, sound_state}
use Rattle.sm_desk.proofs.laws.commands_keep_soundness.Goals as goal

pub returns : goal.returns
returns c = keep
  where
    keep : (desk : DeskView) (command : Command) → AreSound desk.books → desk_fault desk command ≡ None
        → AreSound (commanded desk command).books
    keep desk (Change k change) sound e =
        let through = let_through desk.books k change e in
        sound_stand desk.books k (stand_of desk.books k change) sound through.within
        (changes_known desk.books k change sound through)
        (changes_room c.fit_leaves_room.ensures.named c.fewer_names_leave_room.ensures desk.books k change sound
        through)
    keep desk (Ask a) sound e = sound_state desk.books a IsAsked sound
    keep desk (Approve a) sound e = sound_state desk.books a IsApproved sound
    keep desk (Stopped a) sound e = sound_state desk.books a IsStopped sound
    keep desk (Back a) sound e = sound_state desk.books a IsUp sound
    keep desk (Fail a) sound e = sound_state desk.books a IsFailed sound
