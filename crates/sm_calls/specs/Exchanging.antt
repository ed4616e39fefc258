-- The result of a message that was sent for its reply.
use Rattle.std.specs.Prelude.{ℕ, ◌≡◌, Some, None, Result, Ok, Err}
use Rattle.sm_body.specs.Service.{Meaning}
use Rattle.sm_rule.specs.Boards.{BoardValue}
use Rattle.sm_rule.specs.Passes.{PassLooks, PassValue}
use Rattle.sm_rule.specs.Views.{Begins}
use Rattle.sm_server.specs.Serving.{Sent}
use Rattle.sm_calls.specs.declared.call_refused.CallFault.{CallFault}
use Rattle.sm_calls.specs.declared.call_refused.CallFault.TheVariants as call
use Rattle.sm_calls.specs.declared.call_refused.CallRefused.{CallRefused}
use Rattle.sm_calls.specs.declared.reply.CallReply.{CallReply}
use Rattle.sm_calls.specs.declared.reply.CallReply.TheVariants.{Answered, Refused}
use Rattle.sm_calls.specs.Calls.{ClientValue, IsEnvelopeOf, client_seeing, shard_asked}
use Rattle.sm_calls.specs.Replies.{CallValue}

-- a call of the client at this server: by its bounds, and with an envelope of its number and request
pub record IsCallOf {Q R : Type 0} (service : Meaning Q R) (client : ClientValue Q) (server number : ℕ) (request : Q)
    (asked : CallValue Q) : Type 0 where
  pub bounds : asked.bounds ≡ client.bounds
  pub server_is : asked.server ≡ server
  pub sent : IsEnvelopeOf client.pass (shard_asked service client request) number request asked.sent

-- the caller's result from a reply, or from none
abbrev pub call_outcome : {A Q E : Type 0} → Result (CallReply A (Sent Q)) E → Result A (CallRefused Q)
call_outcome (Ok (Answered answer)) = Ok answer
call_outcome (Ok (Refused fault envelope)) = Err (record { fault = fault; back = Some envelope.request })
call_outcome (Err none) = Err (record { fault = call.Closed; back = None })

-- an envelope that a reply sends back has a note of this board
abbrev pub SendsBackOn : {A Q : Type 0} → BoardValue → CallReply A (Sent Q) → Type 0
SendsBackOn board (Answered answer) = Unit {0}
SendsBackOn board (Refused fault envelope) = envelope.note.board ≡ board

-- the client after an envelope came back for this reason, with this note: if a server refused it, the client has met
-- the note
abbrev pub IsLeftBy : {Q : Type 0} → ClientValue Q → CallFault → PassValue Q → ClientValue Q → Type 0
IsLeftBy before (call.Refused refusal) note after =
    PassLooks before.pass after.pass × (after ≡ client_seeing before after.pass) × Begins note.seen after.pass.seen
IsLeftBy before fault note after = after ≡ before

-- the client after a reply, or after none
abbrev pub IsLeftAfter : {A Q E : Type 0} → ClientValue Q → Result (CallReply A (Sent Q)) E → ClientValue Q → Type 0
IsLeftAfter before (Ok (Refused fault envelope)) after = IsLeftBy before fault envelope.note after
IsLeftAfter before reply after = after ≡ before
