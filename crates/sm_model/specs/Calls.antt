-- The answer to each call of a script at a world, and the world that the call leaves.
use Rattle.std.specs.Prelude.{ℕ, zero, suc, Bool, true, false, Option, Some, None, Result, Ok, Err, if◌then◌else◌, List}
use Rattle.std.specs.Prelude.{[], ◌∷◌, length, replicate}
use Rattle.std.specs.Option.{option_map_or, option_or}
use Rattle.sm_envelope.specs.declared.envelope.TheConstants.{MOST_HOPS}
use Rattle.sm_envelope.specs.declared.refusal.Refusal.TheVariants as refusal
use Rattle.sm_ownership.specs.declared.admit_fault.AdmitFault.TheVariants as admit
use Rattle.sm_place.specs.Plans.{assign_plan, drain_plan}
use Rattle.sm_ownership.specs.declared.route.Route.{Route}
use Rattle.sm_ownership.specs.Routes.{routes_of}
use Rattle.sm_ranges.specs.Ranges.{shard_of}
use Rattle.sm_ranges.specs.Stand.{owner_of}
use Rattle.sm_script.specs.declared.line_answer.LineAnswer.{LineAnswer}
use Rattle.sm_script.specs.declared.line_answer.LineAnswer.TheVariants.{Made as IsMade, Refused as IsRefused}
use Rattle.sm_script.specs.declared.line_answer.LineAnswer.TheVariants.{Seen as IsSeen, Executed, Planned, Way as IsWay}
use Rattle.sm_script.specs.declared.line_answer.LineAnswer.TheVariants.{Error as IsError}
use Rattle.sm_script.specs.declared.fault.LineFault.TheVariants.{NotHere}
use Rattle.sm_script.specs.declared.call.Call.{Call}
use Rattle.sm_script.specs.declared.call.Call.TheVariants as call
use Rattle.sm_script.specs.declared.refused.Refused.TheVariants as refused
use Rattle.sm_service.specs.Service.{key_of_request}
use Rattle.sm_service.specs.declared.reply.Reply.{Reply}
use Rattle.sm_service.specs.declared.request.Request.{Request}
use Rattle.sm_session.specs.Beginning.{settings_desk}
use Rattle.sm_session.specs.Service.{counter_text}
use Rattle.sm_settings.specs.SettingsLine.{SettingsValues}
use Rattle.sm_table.specs.declared.step.Step.{Step}
use Rattle.sm_table.specs.declared.step.Step.TheVariants.{Control, Look, Send, Deliver, Finish, Hold, Free, Checkpoint}
use Rattle.sm_table.specs.declared.step.Step.TheVariants.{Publish, RouteOf}
use Rattle.sm_table.specs.declared.world_answer.WorldAnswer.{WorldAnswer}
use Rattle.sm_table.specs.declared.world_answer.WorldAnswer.TheVariants.{Made, Seen, Sent, Began, Forwarded, Refused}
use Rattle.sm_table.specs.declared.world_answer.WorldAnswer.TheVariants.{Replied, Way}
use Rattle.sm_table.specs.declared.world_fault.WorldFault.{WorldFault}
use Rattle.sm_table.specs.declared.world_fault.WorldFault.TheVariants as fault
use Rattle.sm_table.specs.World.{Frame, WorldState, Plain, is_there, outcome, world_record}

-- the frame of the world that settings ask for
abbrev pub settings_frame : SettingsValues → Frame
settings_frame settings = record {
  bounds = settings.bounds;
  start = settings_desk settings;
  ceiling = settings.ceiling;
  limits = replicate (length settings.bounds) settings.kept;
}

-- the answer to a call that ended in this step; its last step has an answer unless memory was refused, and that ends
-- the run
abbrev pub answer_of : Result (WorldAnswer Reply) WorldFault → Option LineAnswer
answer_of (Ok Made) = Some IsMade
answer_of (Ok (Seen state)) = Some (IsSeen state)
answer_of (Ok (Way route)) = Some (IsWay route)
answer_of (Ok (Refused refusal.TooManyHops)) = Some (IsRefused refused.TooManyHops)
answer_of (Ok (Refused (refusal.Admit fault))) = Some (IsRefused (refused.Admit fault))
answer_of (Ok (Refused refusal.KeptFull)) = Some (IsRefused refused.KeptFull)
answer_of (Ok (Refused refusal.Unreachable)) = Some (IsRefused refused.Unreachable)
answer_of (Ok (Replied number server reply place)) = Some (Executed reply server place)
answer_of (Err (fault.Command why)) = Some (IsRefused (refused.Command why))
answer_of (Err (fault.Admit why)) = Some (IsRefused (refused.Admit why))
answer_of (Err fault.UnknownShard) = Some (IsRefused refused.UnknownShard)
answer_of (Err fault.UnknownServer) = Some (IsRefused refused.UnknownServer)
answer_of (Err fault.Unreachable) = Some (IsRefused refused.Unreachable)
answer_of (Err fault.NotHeld) = Some (IsRefused refused.NotHeld)
answer_of (Err fault.OldRoute) = Some (IsRefused refused.OldRoute)
answer_of (Err fault.WrongPhase) = Some (IsRefused refused.WrongPhase)
answer_of _ = None

-- a step with ample memory: its answer, and the world that it leaves
abbrev pub Stepped : Type 0
Stepped = Result (WorldAnswer Reply) WorldFault × WorldState Request

-- the answer to a step of the world and the world that it leaves, if no memory is refused
abbrev pub stepped : WorldState Request → Step Request → Stepped
stepped w step = outcome counter_text w Plain step

-- the request is in flight; a server has begun it; a server has forwarded it
abbrev pub is_sent : Result (WorldAnswer Reply) WorldFault → Bool
is_sent (Ok Sent) = true
is_sent _ = false

-- the step began a request at a server
abbrev pub is_begun : Result (WorldAnswer Reply) WorldFault → Bool
is_begun (Ok (Began server)) = true
is_begun _ = false

-- the step forwarded a request
abbrev pub is_forwarded : Result (WorldAnswer Reply) WorldFault → Bool
is_forwarded (Ok (Forwarded server)) = true
is_forwarded _ = false

-- only one request at a time is under way, so its envelope is the first in flight: it is delivered, and again after
-- each of this many hops
abbrev pub after_hops : ℕ → WorldState Request → Stepped
after_hops zero w = stepped w (Deliver 0)
after_hops (suc hops) w = let reached = stepped w (Deliver 0) in
    if is_forwarded reached.0 then after_hops hops reached.1 else reached

-- a request is sent to this server, arrives, and is finished if a server began it
abbrev pub requested_at : WorldState Request → Request → ℕ → ℕ → Stepped
requested_at w request shard server = let sent = stepped w (Send server 0 request) in
    if is_sent sent.0 then (let reached = after_hops MOST_HOPS sent.1 in
    if is_begun reached.0 then stepped reached.1 (Finish shard) else reached) else sent

-- the shard of a request's key
abbrev pub shard_for : WorldState Request → Request → ℕ
shard_for w request = shard_of w.frame.bounds (key_of_request request)

-- the call makes steps at every world, and its answer is the answer to the last of them
abbrev pub ends_in_step : Call → Bool
ends_in_step call.Place = false
ends_in_step (call.Drain server) = false
ends_in_step (call.RequestByRoute request) = false
ends_in_step (call.Load key clients each) = false
ends_in_step asked = true

-- the last published route of a request's shard
abbrev pub route_for : WorldState Request → Request → Option Route
route_for w request = routes_of w.publications (shard_for w request)

-- the answer to a call that makes no step here: a plan by the books of the world, or the fault that a client has no
-- route, or that clients at the same time don't run here
abbrev pub answer_without_steps : WorldState Request → Call → Option LineAnswer
answer_without_steps w call.Place = Some (Planned (assign_plan w.desk.books))
answer_without_steps w (call.Drain server) =
    Some (if is_there w server then Planned (drain_plan w.desk.books server) else IsRefused refused.UnknownServer)
answer_without_steps w (call.RequestByRoute request) =
    option_map_or (λ route. None) (route_for w request) (Some (IsRefused refused.NoRoute))
answer_without_steps w (call.Load key clients each) = Some (IsError NotHere)
answer_without_steps w asked = None

-- the steps of a call, if it makes any: a request goes to the shard's owner, and is refused if there is no owner; a
-- client's request goes by the published route
abbrev pub called : WorldState Request → Call → Stepped
called w (call.Control command) = stepped w (Control command)
called w (call.Hold shard server) = stepped w (Hold shard server)
called w (call.Free shard) = stepped w (Free shard)
called w (call.Checkpoint shard server) = stepped w (Checkpoint shard server)
called w (call.Publish shard) = stepped w (Publish shard)
called w (call.Route key) = stepped w (RouteOf key)
called w (call.Look shard) = stepped w (Look shard)
called w (call.Request request) = option_map_or (requested_at w request (shard_for w request))
    (owner_of (world_record w (shard_for w request)).stand) (Ok (Refused (refusal.Admit admit.Vacant)), w)
called w (call.RequestAt server request) = requested_at w request (shard_for w request) server
called w (call.RequestByRoute request) = option_map_or
    (λ route. requested_at w request (shard_for w request) route.server) (route_for w request) (Ok Made, w)
called w asked = (Ok Made, w)

-- the answer to a call: the answer to its last step, or the answer to a call without steps
abbrev pub answered : WorldState Request → Call → Option LineAnswer
answered w asked = option_or (answer_without_steps w asked) (answer_of (called w asked).0)

-- the world after these calls, one after another
abbrev pub world_after_calls : WorldState Request → List Call → WorldState Request
world_after_calls w [] = w
world_after_calls w (call ∷ calls) = world_after_calls (called w call).1 calls
