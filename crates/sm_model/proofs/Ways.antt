-- The parts of a call's way, as proofs go through them one by one.
use Rattle.std.proofs.Common.{ℕ, if◌then◌else◌, Option, Some, None, Result, Ok}
use Rattle.std.specs.Option.{option_map_or}
use Rattle.sm_envelope.specs.declared.envelope.TheConstants.{MOST_HOPS}
use Rattle.sm_envelope.specs.declared.refusal.Refusal.TheVariants as refusal
use Rattle.sm_model.specs.Calls.{Stepped, after_hops, is_begun, is_sent, requested_at, stepped}
use Rattle.sm_ownership.specs.declared.admit_fault.AdmitFault.TheVariants as admit
use Rattle.sm_ownership.specs.declared.route.Route.{Route}
use Rattle.sm_script.specs.declared.line_answer.LineAnswer.{LineAnswer}
use Rattle.sm_script.specs.declared.line_answer.LineAnswer.TheVariants.{Refused as IsRefused}
use Rattle.sm_script.specs.declared.refused.Refused.TheVariants as refused
use Rattle.sm_service.specs.declared.reply.Reply.{Reply}
use Rattle.sm_service.specs.declared.request.Request.{Request}
use Rattle.sm_table.specs.declared.step.Step.TheVariants.{Finish}
use Rattle.sm_table.specs.declared.world_answer.WorldAnswer.{WorldAnswer}
use Rattle.sm_table.specs.declared.world_answer.WorldAnswer.TheVariants.{Made, Refused}
use Rattle.sm_table.specs.declared.world_fault.WorldFault.{WorldFault}
use Rattle.sm_table.specs.World.{WorldState}

-- a request that a server began is finished
abbrev pub after_arrival : ℕ → Result (WorldAnswer Reply) WorldFault → WorldState Request → Stepped
after_arrival shard result w = if is_begun result then stepped w (Finish shard) else (result, w)

-- a request that was sent arrives, and is finished if a server began it
abbrev pub after_sending : ℕ → Result (WorldAnswer Reply) WorldFault → WorldState Request → Stepped
after_sending shard result w = if is_sent result
    then (let reached = after_hops MOST_HOPS w in after_arrival shard reached.0 reached.1) else (result, w)

-- a request goes to the shard's owner, if there is one
abbrev pub requested : WorldState Request → Request → ℕ → Option ℕ → Stepped
requested w request shard owner =
    option_map_or (requested_at w request shard) owner (Ok (Refused (refusal.Admit admit.Vacant)), w)

-- a client's request goes by the shard's route, if there is one
abbrev pub requested_by : WorldState Request → Request → ℕ → Option Route → Stepped
requested_by w request shard route =
    option_map_or (λ (one : Route). requested_at w request shard one.server) route (Ok Made, w)

-- a client's request is refused if there is no route
abbrev pub unless_route : Option Route → Option LineAnswer
unless_route route = option_map_or (λ (one : Route). None) route (Some (IsRefused refused.NoRoute))
