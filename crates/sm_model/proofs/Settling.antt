-- A call that is made at a world with no request under way ends in a step that answers the script, and leaves no
-- request under way.
use Rattle.std.proofs.Common.{◌≡◌, zero, suc, ◌+◌, arith, ◌<◌, ◌++◌, ◌∷◌, [], Bool, true, false, ℕ, List, length, sym}
use Rattle.std.proofs.Common.{subst, refl, Option, Some, None, Result, Ok, Err, is_some, nat_lt, if◌then◌else◌}
use Rattle.std.proofs.Common.{slice_index_or}
use Rattle.std.proofs.lemmas.Bool.Decides.{nat_tests}
use Rattle.std.proofs.lemmas.List.{get_or-set_same}
use Rattle.sm_service.specs.Service.{key_of_request}
use Rattle.sm_service.specs.declared.reply.Reply.{Reply}
use Rattle.sm_service.specs.declared.request.Request.{Request}
use Rattle.sm_ranges.specs.Stand.{owner_of}
use Rattle.sm_script.specs.declared.call.Call.{Call}
use Rattle.sm_script.specs.declared.call.Call.TheVariants as call
use Rattle.sm_ownership.specs.declared.admit_fault.AdmitFault.{AdmitFault}
use Rattle.sm_ownership.specs.declared.route.Route.{Route}
use Rattle.sm_ownership.specs.Routes.{is_old, record_route, routes_of}
use Rattle.sm_desk.specs.declared.command.CommandFault.{CommandFault}
use Rattle.sm_table.specs.declared.world.Flight.{Flight}
use Rattle.sm_table.specs.declared.hands.InHand.{InHand}
use Rattle.sm_table.specs.declared.hands.Work.{Work}
use Rattle.sm_ownership.specs.declared.entry.Ending.TheVariants.{Nothing}
use Rattle.sm_ownership.specs.declared.mode.Mode.TheVariants.{Direct}
use Rattle.sm_table.specs.declared.step.Step.TheVariants.{Control, Look, Send, Deliver, Finish, Hold, Free, Checkpoint}
use Rattle.sm_table.specs.declared.step.Step.TheVariants.{Publish, RouteOf}
use Rattle.sm_table.specs.declared.world_answer.WorldAnswer.{WorldAnswer}
use Rattle.sm_table.specs.declared.world_answer.WorldAnswer.TheVariants.{Made, Forwarded, Seen, Sent, Refused}
use Rattle.sm_table.specs.declared.world_fault.WorldFault.{WorldFault}
use Rattle.sm_table.specs.declared.world_fault.WorldFault.TheVariants.{OldRoute, Unreachable, UnknownServer}
use Rattle.sm_table.specs.declared.world_fault.WorldFault.TheVariants.{UnknownShard}
use Rattle.sm_desk.specs.declared.command.Command.{Command}
use Rattle.sm_desk.specs.declared.command.Command.TheVariants.{Change as ChangeOf, Ask, Approve, Stopped, Back, Fail}
use Rattle.sm_desk.specs.Desk.{is_reached}
use Rattle.sm_envelope.specs.Envelope.{EnvelopeView, one_hop_more, sent_on}
use Rattle.sm_envelope.specs.declared.envelope.TheConstants.{MOST_HOPS}
use Rattle.sm_table.specs.World.{WorldState, Plain, after_hop, arrived, count_of, ended, flight_to}
use Rattle.sm_table.specs.World.{hand_of, is_there, reached, with_room}
use Rattle.sm_table.specs.World.{world_record}
use Rattle.sm_ownership.specs.History.{kept}
use Rattle.sm_ownership.specs.Rules.{admit_fault, forward_to}
use Rattle.sm_envelope.specs.declared.refusal.Refusal.TheVariants.{KeptFull, Unreachable as NotReached}
use Rattle.sm_table.specs.Standing.{IsSound}
use Rattle.sm_table.specs.lemmas.Soundness.{shard_within, sound_next}
use Rattle.sm_session.specs.Service.{counter_text}
use Rattle.sm_model.specs.Calls.{Stepped, after_hops, answer_of, called, is_begun}
use Rattle.sm_model.specs.Calls.{is_forwarded, is_sent, requested_at, shard_for, stepped}
use Rattle.sm_model.specs.Calls.{world_after_calls}
use Rattle.sm_model.proofs.Ways.{after_arrival, after_sending, requested, requested_by}
use Rattle.sm_table.specs.lemmas.Steps.{controlled, freed, hopped, let_go, made_unless, published, served, worked}

-- the last step answers the script, and no request is under way
pub record Settles (went : Stepped) : Type 0 where
  pub answers : is_some (answer_of went.0) ≡ true
  pub rest : went.1.in_flight ≡ []

control_settles : (w : WorldState Request) (command : Command) (fault : Option CommandFault) → w.in_flight ≡ []
    → Settles (controlled w command fault)
control_settles w command (Some fault) rest = record { answers = refl; rest = rest }
control_settles w (ChangeOf shard change) None rest = record { answers = refl; rest = rest }
control_settles w (Ask server) None rest = record { answers = refl; rest = rest }
control_settles w (Approve server) None rest = record { answers = refl; rest = rest }
control_settles w (Stopped server) None rest = record { answers = refl; rest = rest }
control_settles w (Back server) None rest = record { answers = refl; rest = rest }
control_settles w (Fail server) None rest = record { answers = refl; rest = rest }

-- a shard with a request in hand replies, or keeps as many requests as it may
worked_settles : (w : WorldState Request) (shard server : ℕ) (work : Work Request) → w.in_flight ≡ []
    → Settles (worked counter_text w Plain shard server (Some work))
worked_settles w shard server work rest =
    room (nat_lt (length (kept w.history shard)) (slice_index_or w.frame.limits shard 0))
  where
    room : (some : Bool) → Settles (if some then with_room counter_text w Plain shard server work
        else (Ok (Refused KeptFull), ended w shard server Nothing))
    room true = record { answers = refl; rest = rest }
    room false = record { answers = refl; rest = rest }

-- a server that began an envelope finishes its request
begun_settles : (w : WorldState Request) (to : ℕ) (envelope : EnvelopeView Request (Unit {0}))
    → envelope.shard < length w.in_hand → w.in_flight ≡ []
    → Settles (let went = reached {R = Reply} w to envelope None in after_arrival envelope.shard went.0 went.1)
begun_settles w to envelope within rest =
    let after = (reached {R = Reply} w to envelope None).1 in
    let P : Option (InHand Request) → Type 0 = λ hand. Settles (served counter_text after Plain envelope.shard hand) in
    subst P (sym (get_or-set_same w.in_hand envelope.shard (Some (hand_of to envelope)) None within))
    (worked_settles after envelope.shard to (record { number = envelope.number; request = envelope.request }) rest)

-- how an envelope goes on after its first delivery, with this many hops left
abbrev continued : ℕ → Stepped → Stepped
continued zero went = went
continued (suc hops) went = if is_forwarded went.0 then after_hops hops went.1 else went

after_hops_there : (left : ℕ) (went : Stepped) → is_forwarded went.0 ≡ false → continued left went ≡ went
after_hops_there zero went stays = refl
after_hops_there (suc left) went stays = rw stays refl

-- the world with only this envelope in flight
abbrev with_flight : WorldState Request → Flight Request → WorldState Request
with_flight w flight = record w { in_flight = flight ∷ [] }

-- the steps of a request whose envelope is in flight, with this many hops left
abbrev arrives : ℕ → WorldState Request → Flight Request → Stepped
arrives left w flight = let went = after_hops left (with_flight w flight) in
    after_arrival flight.envelope.shard went.0 went.1

-- the same steps after the first delivery
abbrev continues : ℕ → ℕ → Stepped → Stepped
continues left shard went = let whole = continued left went in after_arrival shard whole.0 whole.1

stays_settles : (left shard : ℕ) (went : Stepped) → is_forwarded went.0 ≡ false
    → Settles (after_arrival shard went.0 went.1) → Settles (continues left shard went)
stays_settles left shard went stays settles = let P : Stepped → Type 0 = λ s. Settles (after_arrival shard s.0 s.1) in
    subst P (sym (after_hops_there left went stays)) settles

reached_settles : (left : ℕ) (w : WorldState Request) (to : ℕ) (envelope : EnvelopeView Request (Unit {0}))
    (fault : Option AdmitFault) → envelope.shard < length w.in_hand → w.in_flight ≡ []
    → Settles (continues left envelope.shard (reached w to envelope fault))
reached_settles left w to envelope (Some fault) within rest =
    stays_settles left envelope.shard (reached w to envelope (Some fault)) refl (record { answers = refl; rest = rest })
reached_settles left w to envelope None within rest =
    stays_settles left envelope.shard (reached w to envelope None) refl (begun_settles w to envelope within rest)

-- a forwarded envelope is in flight again if a hop is left
hop_settles : (left : ℕ) (w : WorldState Request) (flight : Flight Request) (to : ℕ)
    → flight.envelope.hops + left ≡ MOST_HOPS
    → ((fewer : ℕ) → left ≡ suc fewer
    → Settles (arrives fewer w (flight_to to (one_hop_more flight.envelope flight.to))))
    → Settles (continues left flight.envelope.shard
    (hopped (record w { in_flight = [] }) (after_hop w.desk [] (sent_on flight.envelope flight.to (Some to)))))
hop_settles zero w flight to hops again = let none : nat_lt flight.envelope.hops MOST_HOPS ≡ false =
    grind (arith, nat_tests) in rw none (record { answers = refl; rest = refl })
hop_settles (suc fewer) w flight to hops again =
    let some : nat_lt flight.envelope.hops MOST_HOPS ≡ true = grind (arith, nat_tests) in
    rw some (onward (is_reached w.desk to))
  where
    onward : (reached : Bool) → Settles (continues (suc fewer) flight.envelope.shard
        (hopped (record w { in_flight = [] }) (if reached then (
          Forwarded to,
          flight_to to (one_hop_more flight.envelope flight.to) ∷ [],
        ) else (Refused NotReached, []))))
    onward true = again fewer refl
    onward false = record { answers = refl; rest = refl }

flight_settles : (left : ℕ) (w : WorldState Request) (flight : Flight Request) (next : Option ℕ)
    → flight.envelope.hops + left ≡ MOST_HOPS → flight.envelope.shard < length w.in_hand
    → ((fewer : ℕ) → left ≡ suc fewer → (to : ℕ)
    → Settles (arrives fewer w (flight_to to (one_hop_more flight.envelope flight.to))))
    → Settles
    (continues left flight.envelope.shard (arrived (record w { in_flight = [] }) flight.to flight.envelope next))
flight_settles left w flight None hops within again =
    let taken : WorldState Request = record w { in_flight = [] } in
    reached_settles left taken flight.to flight.envelope (admit_fault taken.frame.ceiling
    (world_record taken flight.envelope.shard) flight.to flight.envelope.mode) within refl
flight_settles left w flight (Some to) hops within again =
    hop_settles left w flight to hops (λ fewer is. again fewer is to)

-- the only envelope in flight arrives in as many deliveries as hops are left
arrives_settles : (left : ℕ) (w : WorldState Request) (flight : Flight Request) → flight.envelope.hops + left
    ≡ MOST_HOPS → flight.envelope.shard < length w.in_hand → Settles (arrives left w flight)
arrives_settles zero w flight hops within = flight_settles zero w flight
    (forward_to (world_record w flight.envelope.shard) flight.to) hops within (λ fewer is. absurd (omega (arith, is)))
arrives_settles (suc left) w flight hops within =
    flight_settles (suc left) w flight (forward_to (world_record w flight.envelope.shard) flight.to) hops within
    (λ fewer is to. let P : ℕ → Type 0 =
    λ n. Settles (arrives n w (flight_to to (one_hop_more flight.envelope flight.to))) in
    subst P (omega (arith, is))
    (arrives_settles left w (flight_to to (one_hop_more flight.envelope flight.to)) (omega arith) within))

-- the envelope of a request to this server
abbrev flight_of : WorldState Request → Request → ℕ → Flight Request
flight_of w request to = record {
  to = to;
  envelope = record {
    number = 0;
    shard = shard_for w request;
    mode = Direct;
    hops = 0;
    request = request;
    note = tt;
  };
}

-- a request is refused if the server is unknown or isn't reached; otherwise it is sent, and arrives
sent_settles : (w : WorldState Request) (in_flight : List (Flight Request)) (request : Request) (server : ℕ)
    (known reached : Bool) → in_flight ≡ [] → shard_for w request < length w.in_hand
    → Settles (let went : Stepped = if known then (if reached
    then (Ok Sent, record w { in_flight = in_flight ++ flight_of w request server ∷ [] }) else (
      Err Unreachable,
      record w { in_flight = in_flight },
    )) else (Err UnknownServer, record w { in_flight = in_flight }) in
    after_sending (shard_for w request) went.0 went.1)
sent_settles w in_flight request server true true rest within =
    let P : List (Flight Request) → Type 0 = λ flights. Settles (after_sending (shard_for w request) (Ok Sent)
    (record w { in_flight = flights ++ flight_of w request server ∷ [] })) in
    subst P (sym rest) (arrives_settles MOST_HOPS w (flight_of w request server) refl within)
sent_settles w in_flight request server true false rest within = record { answers = refl; rest = rest }
sent_settles w in_flight request server false reached rest within = record { answers = refl; rest = rest }

requested_at_settles : (w : WorldState Request) (request : Request) (server : ℕ)
    → shard_for w request < length w.in_hand → w.in_flight ≡ []
    → Settles (requested_at w request (shard_for w request) server)
requested_at_settles w request server within rest =
    sent_settles w w.in_flight request server (is_there w server) (is_reached w.desk server) rest within

requested_settles : (w : WorldState Request) (request : Request) (owner : Option ℕ)
    → shard_for w request < length w.in_hand → w.in_flight ≡ []
    → Settles (requested w request (shard_for w request) owner)
requested_settles w request None within rest = record { answers = refl; rest = rest }
requested_settles w request (Some owner) within rest = requested_at_settles w request owner within rest

-- an admission without a request, which doesn't change the envelopes in flight
admission_settles : (w made : WorldState Request) (there known : Bool) (fault : Option AdmitFault)
    → w.in_flight ≡ [] → made.in_flight ≡ []
    → Settles
    (if there then (if known then made_unless fault w made else (Err UnknownServer, w)) else (Err UnknownShard, w))
admission_settles w made true true (Some fault) rest left = record { answers = refl; rest = rest }
admission_settles w made true true None rest left = record { answers = refl; rest = left }
admission_settles w made true false fault rest left = record { answers = refl; rest = rest }
admission_settles w made false known fault rest left = record { answers = refl; rest = rest }

let_go_settles : (w : WorldState Request) (shard server : ℕ) (work : Option (Work Request)) → w.in_flight ≡ []
    → Settles (let_go w shard server work)
let_go_settles w shard server None rest = record { answers = refl; rest = rest }
let_go_settles w shard server (Some work) rest = record { answers = refl; rest = rest }

freed_settles : (w : WorldState Request) (shard : ℕ) (there : Bool) (hand : Option (InHand Request)) → w.in_flight ≡ []
    → Settles (if there then freed w shard hand else (Err UnknownShard, w))
freed_settles w shard true None rest = record { answers = refl; rest = rest }
freed_settles w shard true (Some hand) rest = let_go_settles w shard hand.server hand.work rest
freed_settles w shard false hand rest = record { answers = refl; rest = rest }

look_settles : (w : WorldState Request) (shard : ℕ) (there : Bool) → w.in_flight ≡ []
    → Settles (if there then (Ok (Seen (world_record w shard)), w) else (Err UnknownShard, w))
look_settles w shard true rest = record { answers = refl; rest = rest }
look_settles w shard false rest = record { answers = refl; rest = rest }

new_route_settles : (w : WorldState Request) (route : Route) (old : Bool) → w.in_flight ≡ []
    → Settles (if old then (Err OldRoute, w) else (Ok Made, record w { publications = w.publications ++ route ∷ [] }))
new_route_settles w route true rest = record { answers = refl; rest = rest }
new_route_settles w route false rest = record { answers = refl; rest = rest }

published_settles : (w : WorldState Request) (there : Bool) (route : Option Route) → w.in_flight ≡ []
    → Settles (if there then published w route else (Err UnknownShard, w))
published_settles w true None rest = record { answers = refl; rest = rest }
published_settles w true (Some route) rest =
    new_route_settles w route (is_old (routes_of w.publications route.shard) route) rest
published_settles w false route rest = record { answers = refl; rest = rest }

requested_by_settles : (w : WorldState Request) (request : Request) (route : Option Route)
    → shard_for w request < length w.in_hand → w.in_flight ≡ []
    → Settles (requested_by w request (shard_for w request) route)
requested_by_settles w request None within rest = record { answers = refl; rest = rest }
requested_by_settles w request (Some route) within rest = requested_at_settles w request route.server within rest

-- the shard of a request has a place in the lists of the shards
has_place : (w : WorldState Request) (request : Request) → IsSound w → shard_for w request < length w.in_hand
has_place w request sound =
    let Within : ℕ → Type 0 = λ n. shard_for w request < n in
    subst Within (sym sound.hands) (shard_within w.frame.bounds (key_of_request request) sound.frame.layout)

-- each call settles
pub settles : (w : WorldState Request) (call : Call) → IsSound w → w.in_flight ≡ [] → Settles (called w call)
settles w (call.Control command) sound rest = control_settles w command _ rest
settles w call.Place sound rest = record { answers = refl; rest = rest }
settles w (call.Drain server) sound rest = record { answers = refl; rest = rest }
settles w (call.Load key clients each) sound rest = record { answers = refl; rest = rest }
settles w (call.Hold shard server) sound rest =
    admission_settles w _ (nat_lt shard (count_of w)) (is_there w server) _ rest rest
settles w (call.Free shard) sound rest =
    freed_settles w shard (nat_lt shard (count_of w)) (slice_index_or w.in_hand shard None) rest
settles w (call.Checkpoint shard server) sound rest =
    admission_settles w _ (nat_lt shard (count_of w)) (is_there w server) _ rest rest
settles w (call.Publish shard) sound rest =
    published_settles w (nat_lt shard (count_of w)) (record_route shard (world_record w shard)) rest
settles w (call.Route key) sound rest = record { answers = refl; rest = rest }
settles w (call.Look shard) sound rest = look_settles w shard (nat_lt shard (count_of w)) rest
settles w (call.Request request) sound rest =
    requested_settles w request (owner_of (world_record w (shard_for w request)).stand) (has_place w request sound) rest
settles w (call.RequestAt server request) sound rest =
    requested_at_settles w request server (has_place w request sound) rest
settles w (call.RequestByRoute request) sound rest =
    requested_by_settles w request (routes_of w.publications (shard_for w request)) (has_place w request sound) rest

-- ---- after any earlier calls

one_of_sound : (first : Bool) (one other : Stepped) → IsSound one.1 → IsSound other.1
    → IsSound (if first then one else other).1
one_of_sound true one other sound sound_too = sound
one_of_sound false one other sound sound_too = sound_too

after_arrival_sound : (shard : ℕ) (result : Result (WorldAnswer Reply) WorldFault) (w : WorldState Request) → IsSound w
    → IsSound (after_arrival shard result w).1
after_arrival_sound shard result w sound = one_of_sound (is_begun result) (stepped w (Finish shard)) (
  result,
  w,
) (sound_next counter_text w Plain (Finish shard) sound) sound

after_hops_sound : (hops : ℕ) (w : WorldState Request) → IsSound w → IsSound (after_hops hops w).1
after_hops_sound zero w sound = sound_next counter_text w Plain (Deliver 0) sound
after_hops_sound (suc hops) w sound =
    let reached = stepped w (Deliver 0) in
    let still = sound_next counter_text w Plain (Deliver 0) sound in
    one_of_sound (is_forwarded reached.0) (after_hops hops reached.1) reached
    (after_hops_sound hops reached.1 still) still

after_sending_sound : (shard : ℕ) (result : Result (WorldAnswer Reply) WorldFault) (w : WorldState Request) → IsSound w
    → IsSound (after_sending shard result w).1
after_sending_sound shard result w sound =
    let reached = after_hops MOST_HOPS w in
    one_of_sound (is_sent result) (after_arrival shard reached.0 reached.1) (result, w)
    (after_arrival_sound shard reached.0 reached.1 (after_hops_sound MOST_HOPS w sound)) sound

requested_at_sound : (w : WorldState Request) (request : Request) (shard server : ℕ) → IsSound w
    → IsSound (requested_at w request shard server).1
requested_at_sound w request shard server sound =
    let sent = stepped w (Send server 0 request) in
    after_sending_sound shard sent.0 sent.1 (sound_next counter_text w Plain (Send server 0 request) sound)

requested_sound : (w : WorldState Request) (request : Request) (shard : ℕ) (owner : Option ℕ) → IsSound w
    → IsSound (requested w request shard owner).1
requested_sound w request shard None sound = sound
requested_sound w request shard (Some owner) sound = requested_at_sound w request shard owner sound

requested_by_sound : (w : WorldState Request) (request : Request) (shard : ℕ) (route : Option Route) → IsSound w
    → IsSound (requested_by w request shard route).1
requested_by_sound w request shard None sound = sound
requested_by_sound w request shard (Some route) sound = requested_at_sound w request shard route.server sound

called_sound : (w : WorldState Request) (call : Call) → IsSound w → IsSound (called w call).1
called_sound w (call.Control command) sound = sound_next counter_text w Plain (Control command) sound
called_sound w call.Place sound = sound
called_sound w (call.Drain server) sound = sound
called_sound w (call.Load key clients each) sound = sound
called_sound w (call.Hold shard server) sound = sound_next counter_text w Plain (Hold shard server) sound
called_sound w (call.Free shard) sound = sound_next counter_text w Plain (Free shard) sound
called_sound w (call.Checkpoint shard server) sound = sound_next counter_text w Plain (Checkpoint shard server) sound
called_sound w (call.Publish shard) sound = sound_next counter_text w Plain (Publish shard) sound
called_sound w (call.Route key) sound = sound_next counter_text w Plain (RouteOf key) sound
called_sound w (call.Look shard) sound = sound_next counter_text w Plain (Look shard) sound
called_sound w (call.Request request) sound =
    requested_sound w request (shard_for w request) (owner_of (world_record w (shard_for w request)).stand) sound
called_sound w (call.RequestAt server request) sound = requested_at_sound w request (shard_for w request) server sound
called_sound w (call.RequestByRoute request) sound =
    requested_by_sound w request (shard_for w request) (routes_of w.publications (shard_for w request)) sound

pub settles_after : (w : WorldState Request) (calls : List Call) (call : Call) → IsSound w → w.in_flight ≡ []
    → Settles (called (world_after_calls w calls) call)
settles_after w [] call sound rest = settles w call sound rest
settles_after w (first ∷ calls) call sound rest =
    settles_after (called w first).1 calls call (called_sound w first sound) (settles w first sound rest).rest
