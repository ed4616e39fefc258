-- When a world's backend is at a world of the definitions, and its answers there.
use Rattle.std.specs.Prelude.{◌≡◌, [], Some, Result, true, is_some}
use Rattle.sm_envelope.specs.declared.envelope.TheConstants.{MOST_HOPS}
use Rattle.sm_model.specs.Calls.{Stepped, after_hops, answer_of, answered, called, settings_frame, stepped}
use Rattle.sm_script.specs.declared.line_answer.LineAnswer.{LineAnswer}
use Rattle.sm_script.specs.declared.call.Call.{Call}
use Rattle.sm_service.specs.declared.reply.Reply.{Reply}
use Rattle.sm_service.specs.declared.request.Request.{Request}
use Rattle.sm_settings.specs.SettingsLine.{SettingsValues}
use Rattle.sm_table.specs.declared.step.Step.{Step}
use Rattle.sm_table.specs.declared.world_answer.WorldAnswer.{WorldAnswer}
use Rattle.sm_table.specs.declared.world_fault.WorldFault.{WorldFault}
use Rattle.sm_table.specs.Standing.{Follows, StandsFor, WorldView}
use Rattle.sm_table.specs.World.{WorldState, Plain, empty_world, mark_of}

-- the session's world is this one, and no request is under way
pub record IsAt (view : WorldView Request) (w : WorldState Request) : Type 0 where
  pub world : StandsFor view w
  pub rest : w.in_flight ≡ []

-- the session is at a world of the definitions
abbrev pub IsIdle : WorldView Request → Type 0
IsIdle view = (w : WorldState Request) × IsAt view w

-- the session that settings begin: nothing has happened in its world yet
abbrev pub IsNew : SettingsValues → WorldView Request → Type 0
IsNew settings view = IsAt view (empty_world (settings_frame settings))

-- ---- a call

-- at every world the call has this answer, and leaves the world that it must leave
abbrev pub GivesAnswer : WorldView Request → Call → LineAnswer → WorldView Request → Type 0
GivesAnswer before call answer after =
    (w : WorldState Request) → IsAt before w → (answered w call ≡ Some answer) × IsAt after (called w call).1

-- ---- the steps of a call

-- unless memory was refused, the script has an answer to a call that ended in this way
abbrev pub HasAnswer : Result (WorldAnswer Reply) WorldFault → Type 0
HasAnswer ended = mark_of ended ≡ Plain → is_some (answer_of ended) ≡ true

-- at every world the step went as it should
abbrev pub Steps : WorldView Request → Step Request → Result (WorldAnswer Reply) WorldFault → WorldView Request → Type 0
Steps before step result after = (w : WorldState Request) → StandsFor before w → Follows after result (stepped w step)

-- at every world the first envelope in flight arrived as it should
abbrev pub Arrives : WorldView Request → Result (WorldAnswer Reply) WorldFault → WorldView Request → Type 0
Arrives before result after =
    (w : WorldState Request) → StandsFor before w → Follows after result (after_hops MOST_HOPS w)

-- the call ended in this step, which has an answer, and the session is at the world that it leaves
pub record EndsAt (view : WorldView Request) (result : Result (WorldAnswer Reply) WorldFault)
    (ended : Stepped) : Type 0 where
  pub answered : result ≡ ended.0
  pub answers : is_some (answer_of result) ≡ true
  pub stands : IsAt view ended.1

-- at every world the call ended as it should, unless memory was refused; in both cases no request is under way
abbrev pub Ends : WorldView Request → Call → Result (WorldAnswer Reply) WorldFault → WorldView Request → Type 0
Ends before call result after =
    (w : WorldState Request) → IsAt before w
    → IsIdle after × (mark_of result ≡ Plain → EndsAt after result (called w call))
