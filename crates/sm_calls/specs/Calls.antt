-- Clients as contracts see them, and the result of a call.
use Rattle.std.specs.Prelude.{ℕ, ◌≡◌, ◌⊎◌, List, Option, Some, None, Result, Ok, Err}
use Rattle.sm_body.specs.Service.{Meaning}
use Rattle.sm_ownership.specs.declared.entry.Entry.{Entry}
use Rattle.sm_ownership.specs.declared.mode.Mode.{Mode}
use Rattle.sm_ownership.specs.declared.record.Record.{Record}
use Rattle.sm_ownership.specs.declared.route.Route.{Route}
use Rattle.sm_ownership.specs.History.{NoneBy}
use Rattle.sm_ownership.specs.Routes.{routes_of}
use Rattle.sm_publish.specs.Seen.{Extends, RouterView}
use Rattle.sm_ranges.specs.Ranges.{shard_of}
use Rattle.sm_rule.specs.Passes.{PassLooks, PassValue, record_of}
use Rattle.sm_rule.specs.Views.{Begins, IsMet}
use Rattle.sm_server.specs.Answers.{AnswerValue, IsAnswer}
use Rattle.sm_server.specs.declared.refusal.Refusal.{Refusal}
use Rattle.sm_server.specs.declared.outcome.Outcome.TheVariants as outcome
use Rattle.sm_server.specs.Serving.{Sent, Served, is_here}
use Rattle.sm_calls.specs.declared.call_refused.CallFault.{CallFault}
use Rattle.sm_calls.specs.declared.call_refused.CallFault.TheVariants.{NoRoute, Refused, Closed}
use Rattle.sm_calls.specs.declared.call_refused.CallRefused.{CallRefused}
use Rattle.sm_calls.specs.Passes.{IsNewPass}
use Rattle.sm_calls.specs.Ways.{CameTo}

-- a client: its pass, the routes that its router has seen, and the bounds of the shards
pub record ClientValue (Q : Type 0) : Type 0 where
  pub pass : PassValue Q
  pub router : RouterView
  pub bounds : List (List ℕ)

-- a client with a pass that has seen this
abbrev pub client_seeing : {Q : Type 0} → ClientValue Q → PassValue Q → ClientValue Q
client_seeing client pass = record client { pass = pass }

-- a client with a router that has seen this
abbrev pub client_reading : {Q : Type 0} → ClientValue Q → RouterView → ClientValue Q
client_reading client router = record client { router = router }

-- the client has looked: this is the shard's record after all that it then has seen
abbrev pub HasLooked : {Q : Type 0} → ClientValue Q → ℕ → Record → ClientValue Q → Type 0
HasLooked before shard state after =
    PassLooks before.pass after.pass × (state ≡ record_of after.pass shard) × (after ≡ client_seeing before after.pass)

-- the client has met a note: it then has seen everything in the note
abbrev pub HasHeard : {Q : Type 0} → ClientValue Q → PassValue Q → ClientValue Q → Type 0
HasHeard before note after =
    PassLooks before.pass after.pass × IsMet note.number note.seen after.pass.seen
    × (after ≡ client_seeing before after.pass)

-- the client's router has read: this is the shard's last route among those that it then has seen; or there is none,
-- because it has seen none, or the read was refused
abbrev pub HasReadRoute : {Q : Type 0} → ClientValue Q → ℕ → Option Route → ClientValue Q → Type 0
HasReadRoute before shard route after =
    Extends after.router.seen before.router.seen
    × ((route ≡ routes_of after.router.seen shard)
    ⊎ ((route ≡ None) × (after.router.seen ≡ before.router.seen)))
    × (after ≡ client_reading before after.router)

-- an answer for a caller: to the request of this number for the shard, in a history that extends everything that the
-- caller had seen, by the entries by which the request was executed, among others
pub record IsAnswerFor {Q R : Type 0} (service : Meaning Q R) (caller : PassValue Q) (shard number : ℕ) (request : Q)
    (answer : AnswerValue Q R) : Type 0 where
  pub number_is : answer.number ≡ number
  pub board : answer.note.board ≡ caller.board
  pub seen : Begins caller.seen answer.note.seen
  pub unseen : NoneBy answer.note.number caller.seen
  pub mode : Mode
  pub executed : IsAnswer service shard mode request answer

-- the shard of a request's key by the client's bounds
abbrev pub shard_asked : {Q R : Type 0} → Meaning Q R → ClientValue Q → Q → ℕ
shard_asked service client request = shard_of client.bounds (service.key_of request)

-- the answer to a client's call: an answer for its pass, from the shard of the request's key
abbrev pub Gives : {Q R : Type 0} → Meaning Q R → ClientValue Q → ℕ → Q → AnswerValue Q R → Type 0
Gives service client number request answer =
    IsAnswerFor service client.pass (shard_asked service client request) number request answer

-- the request of the client's call at the named server came to the other server after this many hops, in this mode
-- and with this history
abbrev pub RequestCame : {Q R : Type 0} → Meaning Q R → ClientValue Q → ℕ → Q → ℕ → Mode → ℕ → List (Entry Q) → Type 0
RequestCame service client named request hops mode server seen =
    CameTo client.pass named (shard_asked service client request) hops mode server seen

-- an answer to a call of the client at the named server: by that server, or by the one to which the request was
-- forwarded
abbrev pub GivesAt : {Q R : Type 0} → Meaning Q R → ClientValue Q → ℕ → ℕ → Q → AnswerValue Q R → Type 0
GivesAt service client named number request answer =
    (gives : Gives service client number request answer) × (hops : ℕ)
    × RequestCame service client named request hops gives.mode answer.server answer.note.seen

-- the request of a call that was not answered comes back, unless no reply will come
abbrev pub handed_back : {Q : Type 0} → CallFault → Q → Option Q
handed_back Closed request = None
handed_back fault request = Some request

-- the request of a call that was not answered comes back, or doesn't, as its fault says
abbrev pub HandsBack : {Q : Type 0} → Q → CallRefused Q → Type 0
HandsBack request refused = refused.back ≡ handed_back refused.fault request

-- an envelope of a call: with its number, shard and request, and with a note of the caller's board that has seen
-- everything that the caller had seen
pub record IsEnvelopeOf {Q : Type 0} (caller : PassValue Q) (shard number : ℕ) (request : Q)
    (envelope : Sent Q) : Type 0 where
  pub number_is : envelope.number ≡ number
  pub shard_is : envelope.shard ≡ shard
  pub request_is : envelope.request ≡ request
  pub board : envelope.note.board ≡ caller.board
  pub seen : Begins caller.seen envelope.note.seen

-- a server's step on an envelope of the client's call at the named server, which had come to it, refused it for this
-- reason, with a new pass of the server that had seen everything that the client had seen; the pass's history after it,
-- and the note that the step returned, are told
pub record WasRefused {Q R : Type 0} (service : Meaning Q R) (client : ClientValue Q) (named number : ℕ) (request : Q)
    (refusal : Refusal) (told : List (Entry Q)) : Type 0 where
  pub envelope : Sent Q
  pub back : Sent Q
  pub server : ℕ
  pub before : PassValue Q
  pub is_its : IsEnvelopeOf client.pass (shard_asked service client request) number request envelope
  pub came : RequestCame service client named request envelope.hops envelope.mode server envelope.note.seen
  pub new : IsNewPass client.pass.board server client.pass.seen before
  pub served : Served service (is_here service client.bounds client.pass.board.limits.count envelope) before
      envelope (outcome.Refused refusal back)
  pub given : Begins back.note.seen told

-- why a call at a server isn't answered, and the client after it: it asks for no route; if a server refused it, the
-- client has then seen everything by which it was refused; and otherwise nothing has changed
abbrev pub FaultAt : {Q R : Type 0} → Meaning Q R → ClientValue Q → ClientValue Q → ℕ → ℕ → Q → CallFault → Type 0
FaultAt service before after named number request NoRoute = ⊥
FaultAt service before after named number request (Refused refusal) =
    PassLooks before.pass after.pass × (after ≡ client_seeing before after.pass)
    × WasRefused service before named number request refusal after.pass.seen
FaultAt service before after named number request fault = after ≡ before

-- the result of a call: an answer, or why there is none
abbrev pub CallResult : Type 0 → Type 0 → Type 0
CallResult Q R = Result (AnswerValue Q R) (CallRefused Q)

-- the result of a call at the named server, and the client after it
abbrev pub CalledAt : {Q R : Type 0} → Meaning Q R → ClientValue Q → ℕ → ℕ → Q → CallResult Q R → ClientValue Q
    → Type 0
CalledAt service before named number request (Ok answer) after =
    GivesAt service before named number request answer × (after ≡ before)
CalledAt service before named number request (Err refused) after =
    HandsBack request refused × FaultAt service before after named number request refused.fault

-- the result of a call by this route: if there is no route, it is refused for that reason; otherwise it is a call at
-- the route's server
abbrev pub CalledBy : {Q R : Type 0} → Meaning Q R → ClientValue Q → ℕ → Q → Option Route → CallResult Q R
    → ClientValue Q → Type 0
CalledBy service before number request None result after =
    (result ≡ Err (record { fault = NoRoute; back = Some request })) × (after ≡ before)
CalledBy service before number request (Some route) result after =
    CalledAt service before route.server number request result after

-- the result of a call, and the client after it: it goes by the route of the shard that the router then reads
abbrev pub Called : {Q R : Type 0} → Meaning Q R → ClientValue Q → ℕ → Q → CallResult Q R → ClientValue Q → Type 0
Called {Q} service before number request result after =
    (route : Option Route) × (read : ClientValue Q)
    × HasReadRoute before (shard_asked service before request) route read
    × CalledBy service read number request route result after
