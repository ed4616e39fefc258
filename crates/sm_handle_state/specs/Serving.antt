-- Boards of the sample service, their passes, and envelopes, that handles keep.
use Rattle.std.specs.Prelude.{ℕ, ◌≡◌, ◌≤◌, ◌<◌, ◌⊎◌, ⊤, [], Option, Some, None}
use Rattle.sm_body.specs.Service.{Meaning, meaning_of}
use Rattle.sm_envelope.specs.declared.envelope.TheConstants.{MOST_HOPS}
use Rattle.sm_ownership.specs.declared.mode.Mode.{Mode}
use Rattle.sm_ownership.specs.declared.mode.Mode.TheVariants.{Direct, Forwarded}
use Rattle.sm_rule.specs.Passes.{PassLooks, record_of}
use Rattle.sm_rule.specs.Views.{Begins}
use Rattle.sm_server.specs.Answers.{AnswerValue}
use Rattle.sm_server.specs.Basing.{CheckpointRefused, HasMadeCheckpoint}
use Rattle.sm_server.specs.Serving.{Sent, Served, is_here}
use Rattle.sm_server.specs.declared.outcome.Outcome.{Outcome}
use Rattle.sm_server.specs.declared.outcome.Outcome.TheVariants.{Answered as AnswersIt, Forward as ForwardsIt}
use Rattle.sm_server.specs.declared.outcome.Outcome.TheVariants.{Refused as RefusesIt}
use Rattle.sm_service.specs.Service.{after, key_of_request, reply}
use Rattle.sm_service.specs.declared.reply.Reply.{Reply as ReplyValue}
use Rattle.sm_service.specs.declared.request.Request.{Request}
use Rattle.sm_handle_state.specs.Notes.{KeepsNoTextPass}
use Rattle.sm_handle_state.specs.declared.act_fault.ActFault.{ActFault}
use Rattle.sm_handle_state.specs.declared.act_fault.ActFault.TheVariants.{Checkpoint, NoMemory, NotSent, UnknownShard}
use Rattle.sm_handle_state.specs.declared.act_fault.ActFault.TheVariants.{WrongHandle}
use Rattle.sm_handle_state.specs.declared.answer_parts.AnswerParts.{AnswerParts}
use Rattle.sm_handle_state.specs.declared.handle_state.HandleState.{HandleState}
use Rattle.sm_handle_state.specs.declared.handle_state.HandleState.TheVariants.{Answer, Envelope, Layout, TextPass}
use Rattle.sm_handle_state.specs.declared.sent_as.SentAs.{SentAs}
use Rattle.sm_handle_state.specs.declared.served_as.ServedAs.{ServedAs}
use Rattle.sm_handle_state.specs.declared.served_as.ServedAs.TheVariants.{Answered, Forward, Refused}

-- the meaning of the sample service
abbrev pub sample : Meaning Request ReplyValue
sample = meaning_of [] after reply key_of_request

-- the handle keeps an envelope with this number for this shard, which came so and was forwarded so often
abbrev pub IsSentAs : Option HandleState → SentAs → Type 0
IsSentAs (Some (Envelope envelope)) sent =
    (sent.number ≡ envelope.number) × (sent.shard ≡ envelope.shard) × (sent.mode ≡ envelope.mode)
    × (sent.hops ≡ envelope.hops)
IsSentAs state sent = ⊥

-- the handle keeps no envelope
abbrev pub KeepsNoEnvelope : Option HandleState → Type 0
KeepsNoEnvelope (Some (Envelope envelope)) = ⊥
KeepsNoEnvelope state = ⊤

-- the second handle keeps an envelope that came so and carries the request, with a note of all that the first one's
-- pass has seen
abbrev pub Carries : Option HandleState → Option HandleState → SentAs → Request → Type 0
Carries (Some (TextPass pass)) (Some (Envelope envelope)) sent request =
    IsSentAs (Some (Envelope envelope)) sent × (envelope.request ≡ request) × (envelope.note.board ≡ pass.board)
    × Begins pass.seen envelope.note.seen
Carries pass state sent request = ⊥

-- no envelope comes so: it came directly and was forwarded, or was forwarded never, or more often than it may be
abbrev pub ComesNoWay : Mode → ℕ → Type 0
ComesNoWay Direct hops = 0 < hops
ComesNoWay (Forwarded from) hops = (hops ≡ 0) ⊎ (MOST_HOPS < hops)

-- why there is no such envelope: none comes in this mode, the handle keeps no pass of the sample service, or memory was
-- refused
abbrev pub CarriesNothing : Option HandleState → SentAs → ActFault → Type 0
CarriesNothing pass sent NotSent = ComesNoWay sent.mode sent.hops
CarriesNothing pass sent WrongHandle = KeepsNoTextPass pass
CarriesNothing pass sent NoMemory = ⊤
CarriesNothing pass sent fault = ⊥

-- the handle keeps the outcome of an envelope: the answer in its place, or the envelope that goes on or comes back
abbrev pub KeepsOutcome :
    Option HandleState → Outcome (AnswerValue Request ReplyValue) (Sent Request) → ServedAs → Type 0
KeepsOutcome (Some (Answer kept)) (AnswersIt answer) Answered = kept ≡ answer
KeepsOutcome (Some (Envelope kept)) (ForwardsIt to back) (Forward server) = (kept ≡ back) × (server ≡ to)
KeepsOutcome (Some (Envelope kept)) (RefusesIt fault back) (Refused refusal) = (kept ≡ back) × (refusal ≡ fault)
KeepsOutcome state outcome served = ⊥

-- the pass's server had this result for the envelope, by the sample service's meaning and the layout, and the
-- envelope's handle keeps its outcome
abbrev pub Serves :
    Option HandleState → Option HandleState → Option HandleState → Option HandleState → Option HandleState → ServedAs
    → Type 0
Serves (Some (TextPass before)) (Some (TextPass after)) (Some (Layout bounds)) (Some (Envelope envelope)) kept served =
    (outcome : Outcome (AnswerValue Request ReplyValue) (Sent Request)) × PassLooks before after
    × Served sample (is_here sample bounds before.board.limits.count envelope) before envelope outcome
    × KeepsOutcome kept outcome served
Serves before after layout envelope kept served = ⊥

-- the handles keep no pass that acts as a server, no layout or no envelope
abbrev pub ServesNowhere : Option HandleState → Option HandleState → Option HandleState → Type 0
ServesNowhere (Some (TextPass pass)) (Some (Layout bounds)) (Some (Envelope envelope)) = pass.server ≡ None
ServesNowhere pass layout envelope = ⊤

-- if the handles keep a pass and an envelope, these are of one board
abbrev pub IsOfBoard : Option HandleState → Option HandleState → Type 0
IsOfBoard (Some (TextPass pass)) (Some (Envelope envelope)) = envelope.note.board ≡ pass.board
IsOfBoard pass envelope = Unit {0}

-- the handle keeps an answer with these parts
abbrev pub TellsAnswer : Option HandleState → AnswerParts → Type 0
TellsAnswer (Some (Answer answer)) parts =
    (parts.number ≡ answer.number) × (parts.place ≡ answer.place) × (parts.server ≡ answer.server)
TellsAnswer state parts = ⊥

-- the handle keeps no answer
abbrev pub KeepsNoAnswer : Option HandleState → Type 0
KeepsNoAnswer (Some (Answer answer)) = ⊥
KeepsNoAnswer state = ⊤

-- the pass made the shard's state its base, and this is the shard's generation since then
abbrev pub MakesCheckpoint : Option HandleState → Option HandleState → ℕ → ℕ → Type 0
MakesCheckpoint (Some (TextPass before)) (Some (TextPass after)) shard generation =
    HasMadeCheckpoint before shard after × (generation ≡ (record_of after shard).generation)
MakesCheckpoint before after shard generation = ⊥

-- this is why there is no checkpoint: the handle keeps no pass of the sample service, or its board hasn't this shard
abbrev pub BasesNowhere : Option HandleState → ℕ → ActFault → Type 0
BasesNowhere (Some (TextPass pass)) shard fault = (fault ≡ UnknownShard) × (pass.board.limits.count ≤ shard)
BasesNowhere state shard fault = fault ≡ WrongHandle

-- the pass made no checkpoint of the shard, by this fault; or nothing was done, because there is no pass to make it
abbrev pub RefusesCheckpoint : Option HandleState → Option HandleState → ℕ → ActFault → Type 0
RefusesCheckpoint (Some (TextPass before)) (Some (TextPass after)) shard (Checkpoint fault) =
    CheckpointRefused before shard after fault
RefusesCheckpoint before after shard fault = (after ≡ before) × BasesNowhere before shard fault
