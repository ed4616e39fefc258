-- The meaning of a reply to its caller.
use Rattle.std.proofs.Common.{◌≡◌, ℕ, List, ◌∙◌, ap, refl, subst, sym}
use Rattle.std.specs.Prelude.{Some, Result, Ok, Err, IfOk}
use Rattle.sm_body.specs.Service.{Meaning}
use Rattle.sm_ownership.specs.declared.entry.Entry.{Entry}
use Rattle.sm_ownership.specs.declared.mode.Mode.{Mode}
use Rattle.sm_rule.specs.Boards.{BoardValue}
use Rattle.sm_rule.specs.Passes.{PassValue}
use Rattle.sm_rule.specs.Views.{Begins}
use Rattle.sm_rule.specs.lemmas.Passing.{begins_begins}
use Rattle.sm_server.specs.Answers.{AnswerValue, IsAnswer}
use Rattle.sm_server.specs.declared.outcome.Outcome.TheVariants as outcome
use Rattle.sm_server.specs.declared.refusal.Refusal.{Refusal}
use Rattle.sm_server.specs.lemmas.Beginnings.{none_begins}
use Rattle.sm_server.specs.Serving.{Sent, Served, is_here}
use Rattle.sm_calls.specs.declared.call_refused.CallFault.{CallFault}
use Rattle.sm_calls.specs.declared.call_refused.CallFault.TheVariants.{NoRoute, Unreachable, Refused, NoMemory}
use Rattle.sm_calls.specs.declared.call_refused.CallFault.TheVariants.{Closed}
use Rattle.sm_calls.specs.declared.reply.CallReply.{CallReply}
use Rattle.sm_calls.specs.declared.reply.CallReply.TheVariants as reply
use Rattle.sm_calls.specs.Calls.{CallResult, CalledAt, ClientValue, FaultAt, IsAnswerFor, IsEnvelopeOf, WasRefused}
use Rattle.sm_calls.specs.Calls.{RequestCame, handed_back, shard_asked}
use Rattle.sm_calls.specs.Exchanging.{IsCallOf, IsLeftAfter, IsLeftBy, call_outcome}
use Rattle.sm_calls.specs.Replies.{CallCame, CallValue, ComesBackFor, Fits, IsAnswerTo, IsRefusalTo}
use Rattle.sm_calls.specs.Since.{IsClientSince}
use Rattle.sm_calls.specs.lemmas.Since.{since_looks, since_same}
use Rattle.sm_calls.specs.lemmas.Passes.{new_told}
use Rattle.sm_calls.proofs.Coming.{came_earlier}

answers_for : {Q R : Type 0} (service : Meaning Q R) (caller : PassValue Q) (shard number : ℕ) (request : Q)
    (asked : CallValue Q) (answer : AnswerValue Q R) → IsEnvelopeOf caller shard number request asked.sent
    → IsAnswerTo service asked answer → IsAnswerFor service caller shard number request answer
answers_for {Q} service caller shard number request asked answer of to = record {
  number_is = to.number ∙ of.number_is;
  board = to.board ∙ of.board;
  seen = begins_begins caller.seen asked.sent.note.seen answer.note.seen of.seen to.told;
  unseen = none_begins answer.note.number caller.seen asked.sent.note.seen of.seen to.untold;
  mode = to.mode;
  executed = subst (λ (pair : ℕ × Q). IsAnswer service pair.0 to.mode pair.1 answer)
      (λ i. (of.shard_is i, of.request_is i)) to.executed;
}

-- an envelope that comes back has the request
request_back :
    {Q R : Type 0} (service : Meaning Q R) (asked : CallValue Q) (back : Sent Q) (fault : CallFault) (request : Q)
    → back.request ≡ request → ComesBackFor service asked fault back → Some back.request ≡ handed_back fault request
request_back service asked back NoRoute request is never = absurd never
request_back service asked back Unreachable request is why = ap Some is
request_back service asked back (Refused refusal) request is why = ap Some is
request_back service asked back NoMemory request is why = ap Some is
request_back service asked back Closed request is never = absurd never

-- a call of a client
module _ {Q R : Type 0} (service : Meaning Q R) (before : ClientValue Q) (named number : ℕ) (request : Q)
    (asked : CallValue Q) (of : IsCallOf service before named number request asked) where
  -- the client's request came to a server as the call's envelope did
  came_for : (hops : ℕ) (mode : Mode) (server : ℕ) (seen : List (Entry Q)) → CallCame asked hops mode server seen
      → RequestCame service before named request hops mode server seen
  came_for hops mode server seen came =
      came_earlier before.pass asked.sent.note named asked.server (shard_asked service before request)
      asked.sent.shard hops mode server seen of.sent.board of.sent.seen of.server_is of.sent.shard_is came

  -- a refusal to the call is one to the client, and the told history is still true later
  refused_for : (refusal : Refusal) (told seen : List (Entry Q)) → IsRefusalTo service asked refusal told
      → Begins told seen → WasRefused service before named number request refusal seen
  refused_for refusal told seen why more =
      let sent = of.sent in
      let way = why.reached.way in
      record {
        envelope = why.envelope;
        back = why.back;
        server = why.server;
        before = why.before;
        is_its = record {
          number_is = way.number ∙ sent.number_is;
          shard_is = way.shard ∙ sent.shard_is;
          request_is = way.request ∙ sent.request_is;
          board = way.board ∙ sent.board;
          seen = begins_begins before.pass.seen asked.sent.note.seen why.envelope.note.seen sent.seen way.told;
        };
        came = came_for why.envelope.hops why.envelope.mode why.server why.envelope.note.seen why.reached.came;
        new = new_told asked.sent.note.board before.pass.board why.server asked.sent.note.seen before.pass.seen
            why.before sent.board sent.seen why.new;
        served =
            subst
            (λ (pair : List (List ℕ) × BoardValue). Served service (is_here service pair.0 pair.1.limits.count
            why.envelope) why.before why.envelope (outcome.Refused refusal why.back))
            (λ i. (of.bounds i, sent.board i)) why.served;
        given = begins_begins why.back.note.seen told seen why.given more;
      }

  fault_for : (after : ClientValue Q) (fault : CallFault) (back : Sent Q) → ComesBackFor service asked fault back
      → IsLeftBy before fault back.note after → FaultAt service before after named number request fault
  fault_for after NoRoute back never left = never
  fault_for after Unreachable back why left = left
  fault_for after (Refused refusal) back why left =
      (left.0, left.1, refused_for refusal back.note.seen after.pass.seen why left.2)
  fault_for after NoMemory back why left = left
  fault_for after Closed back never left = absurd never

  -- the result of the call from its reply, or from none
  pub called_at : {E : Type 0} (reply : Result (CallReply (AnswerValue Q R) (Sent Q)) E) (after : ClientValue Q)
      → IfOk reply (Fits service (Some asked)) → IsLeftAfter before reply after
      → CalledAt service before named number request (call_outcome reply) after
  unfolding answers_for
  called_at (Ok (reply.Answered answer)) after fits left = (
    (
      answers_for service before.pass (shard_asked service before request) number request asked answer of.sent fits,
      fits.hops,
      came_for fits.hops fits.mode answer.server answer.note.seen fits.came,
    ),
    left,
  )
  called_at (Ok (reply.Refused fault back)) after fits left = (
    request_back service asked back fault request (fits.0.request ∙ of.sent.request_is) fits.1,
    fault_for after fault back fits.1 left,
  )
  called_at (Err none) after fits left = (refl, left)

-- a client whose call at a server ended so has seen no less
module _ {Q R : Type 0} (service : Meaning Q R) (named number : ℕ) (request : Q) where
  since_fault : (before after : ClientValue Q) (fault : CallFault)
      → FaultAt service before after named number request fault → IsClientSince before after
  since_fault before after NoRoute never = absurd never
  since_fault before after Unreachable same =
      subst (λ (client : ClientValue Q). IsClientSince before client) (sym same) (since_same before)
  since_fault before after (Refused refusal) why = since_looks before after why.0 why.1
  since_fault before after NoMemory same =
      subst (λ (client : ClientValue Q). IsClientSince before client) (sym same) (since_same before)
  since_fault before after Closed same =
      subst (λ (client : ClientValue Q). IsClientSince before client) (sym same) (since_same before)

  pub since_called : (before after : ClientValue Q) (result : CallResult Q R)
      → CalledAt service before named number request result after → IsClientSince before after
  since_called before after (Ok answer) called =
      subst (λ (client : ClientValue Q). IsClientSince before client) (sym called.1) (since_same before)
  since_called before after (Err refused) called = since_fault before after refused.fault called.1
