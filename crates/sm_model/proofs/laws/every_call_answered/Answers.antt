use Rattle.std.proofs.Common.{refl}
use Rattle.sm_table.specs.World.{empty_world}
use Rattle.sm_table.specs.lemmas.Soundness.{sound_empty}
use Rattle.sm_model.specs.Calls.{world_after_calls}
use Rattle.sm_model.proofs.Planning.{answered-some}
use Rattle.sm_model.proofs.Settling.{settles_after}
use Rattle.sm_model.proofs.laws.every_call_answered.Goals as goal

pub returns : goal.returns
returns c = λ frame calls call is.
    let settled = settles_after (empty_world frame) calls call (sound_empty frame is) refl in
    (answered-some (world_after_calls (empty_world frame) calls) call settled.answers, settled.rest)
