-- The possible replies to a call.
use Rattle.std.specs.Prelude.{ℕ, ◌≡◌, List, [], ◌∷◌, Option, Some, None, length}
use mathlib.Core.Option.{some}
use lib.ListN.{get_elem?}
use Rattle.sm_body.specs.Service.{Meaning}
use Rattle.sm_ownership.specs.declared.mode.Mode.{Mode}
use Rattle.sm_ownership.specs.declared.entry.Entry.{Entry}
use Rattle.sm_ownership.specs.History.{NoneBy}
use Rattle.sm_rule.specs.Passes.{PassValue}
use Rattle.sm_rule.specs.Views.{Begins}
use Rattle.sm_server.specs.Answers.{AnswerValue, IsAnswer}
use Rattle.sm_server.specs.declared.refusal.Refusal.{Refusal}
use Rattle.sm_server.specs.declared.outcome.Outcome.TheVariants as outcome
use Rattle.sm_server.specs.Serving.{Sent, Served, is_here}
use Rattle.sm_calls.specs.declared.call_refused.CallFault.{CallFault}
use Rattle.sm_calls.specs.declared.call_refused.CallFault.TheVariants as call
use Rattle.sm_calls.specs.declared.reply.CallReply.{CallReply}
use Rattle.sm_calls.specs.declared.reply.CallReply.TheVariants.{Answered, Refused}
use Rattle.sm_calls.specs.Passes.{IsNewPass}
use Rattle.sm_calls.specs.Ways.{CameTo}

-- a call: the bounds of the shards by which it is served, the server that it goes to, and its envelope
pub record CallValue (Q : Type 0) : Type 0 where
  pub bounds : List (List ℕ)
  pub server : ℕ
  pub sent : Sent Q

-- the call's envelope came to this server after this many hops, in this mode and with this history
abbrev pub CallCame : {Q : Type 0} → CallValue Q → ℕ → Mode → ℕ → List (Entry Q) → Type 0
CallCame asked hops mode server seen = CameTo asked.sent.note asked.server asked.sent.shard hops mode server seen

-- an answer to the call whose envelope was first sent like this, by the server to which the envelope came: its history
-- extends the one that the envelope's note had seen, by the entries by which the request was executed, among others
pub record IsAnswerTo {Q R : Type 0} (service : Meaning Q R) (asked : CallValue Q) (answer : AnswerValue Q R) : Type 0
  where
    pub number : answer.number ≡ asked.sent.number
    pub board : answer.note.board ≡ asked.sent.note.board
    pub told : Begins asked.sent.note.seen answer.note.seen
    pub untold : NoneBy answer.note.number asked.sent.note.seen
    pub hops : ℕ
    pub mode : Mode
    pub came : CallCame asked hops mode answer.server answer.note.seen
    pub executed : IsAnswer service asked.sent.shard mode asked.sent.request answer

-- the envelope of that call on its way: with its number, shard and request, and with a note that has seen everything
-- that the first one had seen
pub record IsOnTheWay {Q : Type 0} (sent envelope : Sent Q) : Type 0 where
  pub number : envelope.number ≡ sent.number
  pub shard : envelope.shard ≡ sent.shard
  pub request : envelope.request ≡ sent.request
  pub board : envelope.note.board ≡ sent.note.board
  pub told : Begins sent.note.seen envelope.note.seen

-- the envelope of that call is on its way, and has come to this server
pub record HasReached {Q : Type 0} (asked : CallValue Q) (server : ℕ) (envelope : Sent Q) : Type 0 where
  pub way : IsOnTheWay asked.sent envelope
  pub came : CallCame asked envelope.hops envelope.mode server envelope.note.seen

-- a server's step on the envelope of that call, which had come to it, refused it for this reason, with a new pass of
-- the server that had seen everything that the call's first note had seen; the pass's history after it, and the note
-- that the step returned, are told
pub record IsRefusalTo {Q R : Type 0} (service : Meaning Q R) (asked : CallValue Q) (refusal : Refusal)
    (told : List (Entry Q)) : Type 0 where
  pub envelope : Sent Q
  pub back : Sent Q
  pub server : ℕ
  pub before : PassValue Q
  pub reached : HasReached asked server envelope
  pub new : IsNewPass asked.sent.note.board server asked.sent.note.seen before
  pub served : Served service (is_here service asked.bounds asked.sent.note.board.limits.count envelope) before
      envelope (outcome.Refused refusal back)
  pub given : Begins back.note.seen told

-- the reasons that may stop a message on its way: a shut door, or a lack of memory
abbrev pub IsOfTheWay : CallFault → Type 0
IsOfTheWay call.Unreachable = Unit {0}
IsOfTheWay call.NoMemory = Unit {0}
IsOfTheWay fault = ⊥

-- why the envelope of that call comes back: a server's refusal comes with a note of all by which it was decided
abbrev pub ComesBackFor : {Q R : Type 0} → Meaning Q R → CallValue Q → CallFault → Sent Q → Type 0
ComesBackFor service asked (call.Refused refusal) back = IsRefusalTo service asked refusal back.note.seen
ComesBackFor service asked fault back = IsOfTheWay fault

-- this may be sent as the reply to a call: nothing before the call is known
abbrev pub Fits : {Q R : Type 0} → Meaning Q R → Option (CallValue Q) → CallReply (AnswerValue Q R) (Sent Q) → Type 0
Fits service None reply = ⊥
Fits service (Some asked) (Answered answer) = IsAnswerTo service asked answer
Fits service (Some asked) (Refused fault envelope) =
    IsOnTheWay asked.sent envelope × ComesBackFor service asked fault envelope

abbrev pub AllFit : {T : Type 0} → (T → Type 0) → List T → Type 0
AllFit Fit [] = Unit {0}
AllFit Fit (reply ∷ replies) = Fit reply × AllFit Fit replies

-- the rule of a reply's channel: each pass knows the same call, and each reply fits it; before the call is known there
-- is one pass
pub record HoldsReplies {Q R : Type 0} (service : Meaning Q R) (replies : List (CallReply (AnswerValue Q R) (Sent Q)))
    (views : List (Option (CallValue Q))) : Type 0 where
  pub asked : Option (CallValue Q)
  pub agree : (pass : ℕ) (view : Option (CallValue Q)) → get_elem? views pass ≡ some view → view ≡ asked
  pub fit : AllFit (Fits service asked) replies
  pub alone : asked ≡ None → length views ≡ 1
