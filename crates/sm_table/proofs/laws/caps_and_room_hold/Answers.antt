use Rattle.std.proofs.Common.{◌≡◌, None, List, [], ◌∷◌, refl, subst, sym}
use Rattle.sm_desk.specs.declared.command.Command.{Command}
use Rattle.sm_desk.specs.Desk.{DeskView, books_commanded, commanded, desk_fault}
use Rattle.sm_place.specs.Books.{BooksView}
use Rattle.sm_place.specs.Sound.{AreSound}
use Rattle.sm_tasks.specs.Caps.{MeetsCaps, RestartCaps}
use Rattle.sm_table.specs.Standing.{AreLetThrough, IsSound, desk_after}
use Rattle.sm_table.specs.World.{Frame, WorldState, empty_world, world_of}
use Rattle.sm_table.specs.lemmas.Soundness.{sound_world}
use Rattle.sm_table.proofs.Extensions.{extends_after}
use Rattle.sm_table.proofs.laws.caps_and_room_hold.Goals as goal

-- the caps and the room, which commands keep if they aren't refused
record AreKept (allowed : RestartCaps) (books : BooksView) : Type 0 where
  sound : AreSound books
  caps : MeetsCaps allowed books

abbrev KeepCaps : Type 0
KeepCaps = (desk : DeskView) (command : Command) → AreSound desk.books → MeetsCaps desk.caps desk.books
    → desk_fault desk command ≡ None → MeetsCaps desk.caps (books_commanded desk.books command)

abbrev KeepSoundness : Type 0
KeepSoundness = (desk : DeskView) (command : Command) → AreSound desk.books → desk_fault desk command ≡ None
    → AreSound (commanded desk command).books

caps_after : (start : DeskView) (commands : List Command) → (desk_after start commands).caps ≡ start.caps
caps_after start [] = refl
caps_after start (command ∷ earlier) = caps_after start earlier

kept_after : KeepCaps → KeepSoundness → (start : DeskView) (commands : List Command) → AreLetThrough start commands
    → AreSound start.books → MeetsCaps start.caps start.books → AreKept start.caps (desk_after start commands).books
kept_after keep_caps keep_sound start [] through sound caps = record { sound = sound; caps = caps }
kept_after keep_caps keep_sound start (command ∷ earlier) through sound caps =
    let before = kept_after keep_caps keep_sound start earlier through.1 sound caps in
    let desk = desk_after start earlier in
    let same = caps_after start earlier in
    let own : MeetsCaps desk.caps desk.books = subst (λ allowed. MeetsCaps allowed desk.books) (sym same) before.caps in
    record {
      sound = keep_sound desk command before.sound through.0;
      caps = subst (λ allowed. MeetsCaps allowed (books_commanded desk.books command)) same
          (keep_caps desk command before.sound own through.0);
    }

kept_of_world : {Q : Type 0} → KeepCaps → KeepSoundness → (w : WorldState Q) → IsSound w
    → AreKept w.frame.start.caps w.desk.books
kept_of_world keep_caps keep_sound w sound =
    subst (λ (desk : DeskView). AreKept w.frame.start.caps desk.books) sound.desk.leads
    (kept_after keep_caps keep_sound w.frame.start sound.desk.commands sound.desk.through sound.frame.books
    sound.frame.caps)

pub returns-clause-stands : goal.returns-clause-stands
returns-clause-stands g c = λ service frame steps is. (sound_world service frame steps is).stands

pub returns-clause-room : goal.returns-clause-room
returns-clause-room g c = λ service frame steps is.
    (kept_of_world c.commands_keep_caps.ensures c.commands_keep_soundness.ensures (world_of service frame steps)
    (sound_world service frame steps is)).sound.room

pub returns-clause-caps : goal.returns-clause-caps
returns-clause-caps g c = λ service frame steps is.
    subst (λ (f : Frame). MeetsCaps f.start.caps (world_of service frame steps).desk.books)
    (extends_after service (empty_world frame) steps).frame
    (kept_of_world c.commands_keep_caps.ensures c.commands_keep_soundness.ensures (world_of service frame steps)
    (sound_world service frame steps is)).caps
