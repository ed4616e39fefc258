-- The effect of a server's step on an envelope for the envelope's call.
use Rattle.std.specs.Prelude.{ℕ, ◌≡◌}
use Rattle.sm_body.specs.Service.{Meaning}
use Rattle.sm_envelope.specs.Envelope.{shell_of}
use Rattle.sm_rule.specs.Views.{Begins}
use Rattle.sm_server.specs.Answers.{AnswerValue}
use Rattle.sm_server.specs.declared.outcome.Outcome.{Outcome}
use Rattle.sm_server.specs.declared.outcome.Outcome.TheVariants.{Answered, Forward, Refused}
use Rattle.sm_server.specs.Serving.{Sent}
use Rattle.sm_calls.specs.Replies.{CallValue, HasReached, IsAnswerTo, IsRefusalTo}

-- the same envelope with a note of the same board that has seen no less
pub record IsNotedAgain {Q : Type 0} (envelope again : Sent Q) : Type 0 where
  pub shell : shell_of again ≡ shell_of envelope
  pub request : again.request ≡ envelope.request
  pub board : again.note.board ≡ envelope.note.board
  pub told : Begins envelope.note.seen again.note.seen

-- the result of a step of this server on the envelope of a call
abbrev pub IsToldOf : {Q R : Type 0} → Meaning Q R → CallValue Q → ℕ → Outcome (AnswerValue Q R) (Sent Q) → Type 0
IsToldOf service asked server (Answered answer) = IsAnswerTo service asked answer
IsToldOf service asked server (Forward to back) = HasReached asked to back
IsToldOf service asked server (Refused refusal back) =
    HasReached asked server back × IsRefusalTo service asked refusal back.note.seen

-- a step of a server on an envelope with some bounds tells every call that has these bounds and whose envelope has come
-- there
abbrev pub Tells : {Q R : Type 0} → Meaning Q R → CallValue Q → Outcome (AnswerValue Q R) (Sent Q) → Type 0
Tells {Q} service stepped outcome =
    (asked : CallValue Q) → asked.bounds ≡ stepped.bounds → HasReached asked stepped.server stepped.sent
    → IsToldOf service asked stepped.server outcome
