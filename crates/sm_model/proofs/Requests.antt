-- How a call ends, by the results of its steps.
use Rattle.std.proofs.Common.{◌≡◌, ℕ, Bool, true, false, List, [], if◌then◌else◌, ap, sym, ◌∙◌, subst, refl, Option}
use Rattle.std.proofs.Common.{Some, None, Ok, Err, Result, is_some, nat_lt, length, slice_index_or}
use Rattle.std.proofs.lemmas.Bool.{true≢false}
use Rattle.sm_desk.specs.Desk.{is_reached}
use Rattle.sm_envelope.specs.declared.envelope.TheConstants.{MOST_HOPS}
use Rattle.sm_envelope.specs.declared.refusal.Refusal.TheVariants as refusal
use Rattle.sm_ownership.specs.declared.admit_fault.AdmitFault.{AdmitFault}
use Rattle.sm_ownership.specs.declared.admit_fault.AdmitFault.TheVariants as admit
use Rattle.sm_ownership.specs.declared.record.Record.{Record}
use Rattle.sm_ownership.specs.declared.entry.Ending.TheVariants.{Nothing}
use Rattle.sm_ownership.specs.History.{kept, record_at}
use Rattle.sm_ranges.specs.Ranges.{shard_of}
use Rattle.sm_ranges.specs.Stand.{owner_of}
use Rattle.sm_script.specs.declared.call.Call.{Call}
use Rattle.sm_script.specs.declared.call.Call.TheVariants as call
use Rattle.sm_service.specs.Service.{key_of_request}
use Rattle.sm_service.specs.declared.reply.Reply.{Reply}
use Rattle.sm_service.specs.declared.request.Request.{Request}
use Rattle.sm_table.specs.declared.hands.InHand.{InHand}
use Rattle.sm_table.specs.declared.hands.Work.{Work}
use Rattle.sm_table.specs.declared.step.Step.{Step}
use Rattle.sm_table.specs.declared.step.Step.TheVariants.{Send, Finish, Checkpoint}
use Rattle.sm_table.specs.declared.world_answer.WorldAnswer.{WorldAnswer}
use Rattle.sm_table.specs.declared.world_answer.WorldAnswer.TheVariants.{Made, Seen, Sent, Began, Forwarded, Refused}
use Rattle.sm_table.specs.declared.world_answer.WorldAnswer.TheVariants.{Replied, Way}
use Rattle.sm_table.specs.declared.world_fault.WorldFault.{WorldFault}
use Rattle.sm_table.specs.declared.world_fault.WorldFault.TheVariants as fault
use Rattle.sm_table.specs.Standing.{Follows, GoesAs, StandsFor, WorldView}
use Rattle.sm_table.specs.World.{WorldState, Mark, Plain, Unmade, Unserved, count_of, ended, is_there}
use Rattle.sm_table.specs.World.{mark_of, may_go, outcome, with_room, world_record}
use Rattle.sm_session.specs.Service.{counter_text}
use Rattle.sm_model.specs.Calls.{Stepped, after_hops, answer_of, called, is_begun}
use Rattle.sm_model.specs.Calls.{is_sent, shard_for, stepped}
use Rattle.sm_model.proofs.Ways.{after_arrival, after_sending, requested}
use Rattle.sm_model.specs.Sessions.{Arrives, Ends, EndsAt, IsIdle, Steps}
use Rattle.sm_model.proofs.Answering.{follows_plain}
use Rattle.sm_model.proofs.Settling.{Settles, settles}
use Rattle.sm_table.specs.lemmas.Steps.{made_unless, served, worked}

-- a call whose steps have this result ends with it
ends_with : (after : WorldView Request) (w : WorldState Request) (result : Result (WorldAnswer Reply) WorldFault)
    (whole went : Stepped)
    → whole ≡ went → Follows after result went → Settles whole → EndsAt after result whole
ends_with after w result whole went is follows settled =
    let answered = follows.answered ∙ sym (ap (λ (s : Stepped). s.0) is) in
    record {
      answered = answered;
      answers = subst (λ (r : Result (WorldAnswer Reply) WorldFault). is_some (answer_of r) ≡ true)
          (sym answered) settled.answers;
      stands =
          record { world = subst (λ (s : Stepped). StandsFor after s.1) (sym is) follows.stands; rest = settled.rest };
    }

-- the result of a call, if the call ended: the session is at the world that it leaves
abbrev pub Outcome : WorldView Request → WorldState Request → Call → Result (WorldAnswer Reply) WorldFault → Type 0
Outcome after w call result = IsIdle after × (mark_of result ≡ Plain → EndsAt after result (called w call))

ended_at : (after : WorldView Request) (w : WorldState Request) (call : Call)
    (result : Result (WorldAnswer Reply) WorldFault) → EndsAt after result (called w call) → Outcome after w call result
ended_at after w call result end = (((called w call).1, end.stands), λ plain. end)

-- a call of one step ends with it
pub ends_step : (before after : WorldView Request) (call : Call) (step : Step Request)
    (result : Result (WorldAnswer Reply) WorldFault)
    → ((w : WorldState Request) → called w call ≡ stepped w step) → Steps before step result after
    → Ends before call result after
ends_step before after call step result one steps = λ w at.
    ended_at after w call result (ends_with after w result (called w call) (stepped w step) (one w) (steps w at.world)
    (settles w call at.world.sound at.rest))

-- ---- the owner of the request's shard

-- the shard by a world's parts is the shard of the definitions
pub shard_is : (view : WorldView Request) (w : WorldState Request) (request : Request) (shard : ℕ)
    → StandsFor view w → shard ≡ shard_of view.bounds (key_of_request request) → shard ≡ shard_for w request
shard_is view w request shard stands is =
    is ∙ ap (λ (bounds : List (List ℕ)). shard_of bounds (key_of_request request)) stands.bounds

owner_is : (view : WorldView Request) (w : WorldState Request) (request : Request) (shard : ℕ) (state : Record)
    (owner : Option ℕ)
    → StandsFor view w → shard ≡ shard_of view.bounds (key_of_request request) → state ≡ record_at view.records shard
    → owner ≡ owner_of state.stand
    → owner_of (world_record w (shard_for w request)).stand ≡ owner
owner_is view w request shard state owner stands is shown owned =
    let read : state ≡ world_record w (shard_for w request) =
    shown ∙ ap (λ (records : List Record). record_at records shard) stands.records
    ∙ ap (world_record w) (shard_is view w request shard stands is) in
    sym (owned ∙ ap (λ (r : Record). owner_of r.stand) read)

-- there is no owner: the request is refused
pub ends_vacant : (view : WorldView Request) (request : Request) (shard : ℕ) (state : Record) (owner : Option ℕ)
    → shard ≡ shard_of view.bounds (key_of_request request) → state ≡ record_at view.records shard
    → owner ≡ owner_of state.stand → owner ≡ None
    → Ends view (call.Request request) (Ok (Refused (refusal.Admit admit.Vacant))) view
ends_vacant view request shard state owner is shown owned none = λ w at.
    ended_at view w (call.Request request) (Ok (Refused (refusal.Admit admit.Vacant)))
    (ends_with view w (Ok (Refused (refusal.Admit admit.Vacant))) (called w (call.Request request))
    (Ok (Refused (refusal.Admit admit.Vacant)), w)
    (ap (requested w request (shard_for w request))
    (owner_is view w request shard state owner at.world is shown owned ∙ none))
    (record { answered = refl; stands = at.world })
    (settles w (call.Request request) at.world.sound at.rest))

-- there is an owner: the request goes to it
pub ends_at_owner : (before after : WorldView Request) (request : Request) (shard server : ℕ) (state : Record)
    (owner : Option ℕ) (result : Result (WorldAnswer Reply) WorldFault)
    → shard ≡ shard_of before.bounds (key_of_request request) → state ≡ record_at before.records shard
    → owner ≡ owner_of state.stand → owner ≡ Some server
    → Ends before (call.RequestAt server request) result after → Ends before (call.Request request) result after
ends_at_owner before after request shard server state owner result is shown owned some ends = λ w at.
    let end = ends w at in
    let P : Option ℕ → Type 0 = λ one. EndsAt after result (requested w request (shard_for w request) one) in (
      end.0,
      λ plain. subst P (sym
          (owner_is before w request shard state owner at.world is shown owned ∙ some)) (end.1 plain),
    )

-- ---- the request is sent to a server

-- a step that takes no memory went as it should
plain_mark : (step : Step Request) (mark : Mark) → may_go step Unmade ≡ false → may_go step Unserved ≡ false
    → may_go step mark ≡ true → mark ≡ Plain
plain_mark step Plain unmade unserved goes = refl
plain_mark step Unmade unmade unserved goes = absurd (true≢false (sym goes ∙ unmade))
plain_mark step Unserved unmade unserved goes = absurd (true≢false (sym goes ∙ unserved))

pub steps_plainly :
    (before after : WorldView Request) (result : Result (WorldAnswer Reply) WorldFault) (step : Step Request)
    → GoesAs counter_text before result after step → may_go step (mark_of result) ≡ true → may_go step Unmade ≡ false
    → may_go step Unserved ≡ false
    → Steps before step result after
steps_plainly before after result step goes may unmade unserved = λ w at.
    follows_plain after w step result (plain_mark step (mark_of result) unmade unserved may) (goes w at)

abbrev sent_to : WorldState Request → Request → ℕ → Stepped
sent_to w request server = stepped w (Send server 0 request)

abbrev sent_where : Bool → Bool → WorldState Request → WorldState Request → Stepped
sent_where known reached sent w =
    if known then (if reached then (Ok Sent, sent) else (Err fault.Unreachable, w)) else (Err fault.UnknownServer, w)

unknown_unsent : (known reached : Bool) (sent w : WorldState Request)
    → is_sent (sent_where known reached sent w).0 ≡ false → (sent_where known reached sent w).1 ≡ w
unknown_unsent true true sent w unsent = absurd cc
unknown_unsent true false sent w unsent = refl
unknown_unsent false reached sent w unsent = refl

-- if nothing was sent, the world is unchanged
unsent_same : (w : WorldState Request) (mark : Mark) (server : ℕ) (request : Request)
    → is_sent (outcome counter_text w mark (Send server 0 request)).0 ≡ false
    → (outcome counter_text w mark (Send server 0 request)).1 ≡ w
unsent_same w Unmade server request unsent = refl
unsent_same w Plain server request unsent = unknown_unsent (is_there w server) (is_reached w.desk server) _ w unsent
unsent_same w Unserved server request unsent = unknown_unsent (is_there w server) (is_reached w.desk server) _ w unsent

-- a step that didn't send the request ends the call
after_no_sending : (shard : ℕ) (result : Result (WorldAnswer Reply) WorldFault) (w : WorldState Request)
    → is_sent result ≡ false → after_sending shard result w ≡ (result, w)
after_no_sending shard result w unsent = rw unsent refl

pub ends_unsent :
    (before after : WorldView Request) (server : ℕ) (request : Request) (sent : Result (WorldAnswer Reply) WorldFault)
    → GoesAs counter_text before sent after (Send server 0 request) → is_sent sent ≡ false
    → Ends before (call.RequestAt server request) sent after
ends_unsent before after server request sent stands unsent = λ w at.
    let follows = stands w at.world in
    let Unsent : Result (WorldAnswer Reply) WorldFault → Type 0 = λ r. is_sent r ≡ false in
    let same = unsent_same w (mark_of sent) server request (subst Unsent follows.answered unsent) in
    let idle : IsIdle after = (w, record { world = subst (StandsFor after) same follows.stands; rest = at.rest }) in (
      idle,
      λ plain.
          let went = follows_plain after w (Send server 0 request) sent plain follows in
          ends_with after w sent (called w (call.RequestAt server request)) (sent_to w request server)
          (after_no_sending (shard_for w request) (sent_to w request server).0 (sent_to w request server).1
          (subst Unsent went.answered unsent))
          went (settles w (call.RequestAt server request) at.world.sound at.rest),
    )

-- ---- the request was sent, and arrives at a server

sent_is : (result : Result (WorldAnswer Reply) WorldFault) → is_sent result ≡ true → result ≡ Ok Sent
sent_is (Ok Sent) is = refl
sent_is (Ok Made) is = cc
sent_is (Ok (Way route)) is = cc
sent_is (Ok (Seen state)) is = cc
sent_is (Ok (Began server)) is = cc
sent_is (Ok (Forwarded server)) is = cc
sent_is (Ok (Refused reason)) is = cc
sent_is (Ok (Replied number server reply place)) is = cc
sent_is (Err reason) is = cc

begun_is : (result : Result (WorldAnswer Reply) WorldFault) → is_begun result ≡ true
    → (server : ℕ) × (result ≡ Ok (Began server))
begun_is (Ok (Began server)) is = (server, refl)
begun_is (Ok Sent) is = absurd cc
begun_is (Ok (Forwarded server)) is = absurd cc
begun_is (Ok Made) is = absurd cc
begun_is (Ok (Way route)) is = absurd cc
begun_is (Ok (Seen state)) is = absurd cc
begun_is (Ok (Refused reason)) is = absurd cc
begun_is (Ok (Replied number server reply place)) is = absurd cc
begun_is (Err reason) is = absurd cc

abbrev arrived_by : WorldState Request → Request → ℕ → Stepped
arrived_by w request server = after_hops MOST_HOPS (sent_to w request server).1

-- the result of the call is the result of its arrival
record HasArrived (after : WorldView Request) (w : WorldState Request) (request : Request) (server : ℕ)
    (reached : Result (WorldAnswer Reply) WorldFault) : Type 0 where
  follows : Follows after reached (arrived_by w request server)
  whole : called w (call.RequestAt server request)
      ≡ after_arrival (shard_for w request) (arrived_by w request server).0 (arrived_by w request server).1

has_arrived : (before between after : WorldView Request) (server : ℕ) (request : Request)
    (sent reached : Result (WorldAnswer Reply) WorldFault) (w : WorldState Request)
    → GoesAs counter_text before sent between (Send server 0 request) → is_sent sent ≡ true
    → Arrives between reached after → StandsFor before w → HasArrived after w request server reached
has_arrived before between after server request sent reached w stands is arrives at =
    let is_sent_there : sent ≡ Ok Sent = sent_is sent is in
    let went : Follows between (Ok Sent) (sent_to w request server) =
    subst (λ (r : Result (WorldAnswer Reply) WorldFault). Follows between r
    (outcome counter_text w (mark_of r) (Send server 0 request))) is_sent_there (stands w at) in
    record {
      follows = arrives (sent_to w request server).1 went.stands;
      whole = ap (λ (r : Result (WorldAnswer Reply) WorldFault). after_sending (shard_for w request) r
          (sent_to w request server).1) (sym went.answered);
    }

-- an arrival at which no server began the request ends the call
after_no_arrival : (shard : ℕ) (result : Result (WorldAnswer Reply) WorldFault) (w : WorldState Request)
    → is_begun result ≡ false → after_arrival shard result w ≡ (result, w)
after_no_arrival shard result w unbegun = rw unbegun refl

pub ends_unbegun : (before between after : WorldView Request) (server : ℕ) (request : Request)
    (sent reached : Result (WorldAnswer Reply) WorldFault)
    → GoesAs counter_text before sent between (Send server 0 request) → is_sent sent ≡ true
    → Arrives between reached after → is_begun reached ≡ false
    → Ends before (call.RequestAt server request) reached after
ends_unbegun before between after server request sent reached stands is arrives unbegun = λ w at.
    let has = has_arrived before between after server request sent reached w stands is arrives at.world in
    let unbegun_there =
    subst (λ (r : Result (WorldAnswer Reply) WorldFault). is_begun r ≡ false) has.follows.answered unbegun in
    ended_at after w (call.RequestAt server request) reached
    (ends_with after w reached (called w (call.RequestAt server request)) (arrived_by w request server)
    (has.whole ∙ after_no_arrival (shard_for w request) (arrived_by w request server).0
    (arrived_by w request server).1 unbegun_there)
    has.follows (settles w (call.RequestAt server request) at.world.sound at.rest))

-- ---- a server began the request, and finishes it

with_room_keeps : (w : WorldState Request) (mark : Mark) (shard server : ℕ) (work : Work Request)
    → (with_room counter_text w mark shard server work).1.in_flight ≡ w.in_flight
with_room_keeps w Plain shard server work = refl
with_room_keeps w Unmade shard server work = refl
with_room_keeps w Unserved shard server work = refl

worked_keeps : (w : WorldState Request) (mark : Mark) (shard server : ℕ) (work : Option (Work Request))
    → (worked counter_text w mark shard server work).1.in_flight ≡ w.in_flight
worked_keeps w mark shard server None = refl
worked_keeps w mark shard server (Some work) =
    room (nat_lt (length (kept w.history shard)) (slice_index_or w.frame.limits shard 0))
  where
    room : (some : Bool) → (if some then with_room counter_text w mark shard server work
        else (Ok (Refused refusal.KeptFull), ended w shard server Nothing)).1.in_flight ≡ w.in_flight
    room true = with_room_keeps w mark shard server work
    room false = refl

served_keeps : (w : WorldState Request) (mark : Mark) (shard : ℕ) (hand : Option (InHand Request))
    → (served counter_text w mark shard hand).1.in_flight ≡ w.in_flight
served_keeps w mark shard None = refl
served_keeps w mark shard (Some hand) = worked_keeps w mark shard hand.server hand.work

-- the envelopes in flight stay the same
finish_keeps : (w : WorldState Request) (mark : Mark) (shard : ℕ)
    → (outcome counter_text w mark (Finish shard)).1.in_flight ≡ w.in_flight
finish_keeps w Unmade shard = refl
finish_keeps w Plain shard = served_keeps w Plain shard (slice_index_or w.in_hand shard None)
finish_keeps w Unserved shard = served_keeps w Unserved shard (slice_index_or w.in_hand shard None)

pub ends_finished : (before between there after : WorldView Request) (shard server : ℕ) (request : Request)
    (sent reached result : Result (WorldAnswer Reply) WorldFault)
    → GoesAs counter_text before sent between (Send server 0 request) → is_sent sent ≡ true
    → Arrives between reached there → is_begun reached ≡ true
    → GoesAs counter_text there result after (Finish shard)
    → shard ≡ shard_of before.bounds (key_of_request request) → Ends before (call.RequestAt server request) result after
ends_finished before between there after shard server request sent reached result stands is arrives begun finishes
    shard_at = λ w at.
    let has = has_arrived before between there server request sent reached w stands is arrives at.world in
    let by = begun_is reached begun in
    let v = (arrived_by w request server).1 in
    let whole : called w (call.RequestAt server request) ≡ stepped v (Finish shard) =
    has.whole
    ∙ ap (λ (r : Result (WorldAnswer Reply) WorldFault). after_arrival (shard_for w request) r v)
    (sym has.follows.answered ∙ by.1)
    ∙ sym (ap (λ k. stepped v (Finish k)) (shard_is before w request shard at.world shard_at)) in
    let settled = settles w (call.RequestAt server request) at.world.sound at.rest in
    let rest : v.in_flight ≡ [] =
    sym (finish_keeps v Plain shard) ∙ sym (ap (λ (s : Stepped). s.1.in_flight) whole) ∙ settled.rest in
    let follows = finishes v has.follows.stands in
    let idle : IsIdle after = (
      (outcome counter_text v (mark_of result) (Finish shard)).1,
      record { world = follows.stands; rest = finish_keeps v (mark_of result) shard ∙ rest },
    ) in (
      idle,
      λ plain. ends_with after w result (called w (call.RequestAt server request)) (stepped v
          (Finish shard)) whole (follows_plain after v (Finish shard) result plain follows) settled,
    )

-- ---- a checkpoint, to which memory may be refused

admission_keeps : (w made : WorldState Request) (there known : Bool) (why : Option AdmitFault)
    → made.in_flight ≡ w.in_flight
    → (if there then (if known then made_unless {R = Reply} why w made else (Err fault.UnknownServer, w))
    else (Err fault.UnknownShard, w)).1.in_flight ≡ w.in_flight
admission_keeps w made true true (Some why) left = refl
admission_keeps w made true true None left = left
admission_keeps w made true false why left = refl
admission_keeps w made false known why left = refl

checkpoint_keeps : (w : WorldState Request) (mark : Mark) (shard server : ℕ)
    → (outcome counter_text w mark (Checkpoint shard server)).1.in_flight ≡ w.in_flight
checkpoint_keeps w Unmade shard server = refl
checkpoint_keeps w Plain shard server = admission_keeps w _ (nat_lt shard (count_of w)) (is_there w server) _ refl
checkpoint_keeps w Unserved shard server = admission_keeps w _ (nat_lt shard (count_of w)) (is_there w server) _ refl

pub ends_checkpoint :
    (before after : WorldView Request) (shard server : ℕ) (result : Result (WorldAnswer Reply) WorldFault)
    → GoesAs counter_text before result after (Checkpoint shard server)
    → Ends before (call.Checkpoint shard server) result after
ends_checkpoint before after shard server result goes = λ w at.
    let follows = goes w at.world in
    let idle : IsIdle after = (
      (outcome counter_text w (mark_of result) (Checkpoint shard server)).1,
      record { world = follows.stands; rest = checkpoint_keeps w (mark_of result) shard server ∙ at.rest },
    ) in (
      idle,
      λ plain.
          ends_with after w result (called w (call.Checkpoint shard server)) (stepped w (Checkpoint shard server)) refl
          (follows_plain after w (Checkpoint shard server) result plain follows)
          (settles w (call.Checkpoint shard server) at.world.sound at.rest),
    )
