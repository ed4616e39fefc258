-- How the step that ends a call and the call's answer follow from each other.
use Rattle.std.proofs.Common.{◌≡◌, true, ap, sym, ◌∙◌, subst, refl, Ok, Err, Result, Some, is_some, IfOk}
use Rattle.std.specs.declared.alloc.AllocError.{AllocError}
use Rattle.sm_envelope.specs.declared.refusal.Refusal.TheVariants as refusal
use Rattle.sm_script.specs.declared.line_answer.LineAnswer.{LineAnswer}
use Rattle.sm_script.specs.declared.call.Call.{Call}
use Rattle.sm_service.specs.declared.reply.Reply.{Reply}
use Rattle.sm_service.specs.declared.request.Request.{Request}
use Rattle.sm_table.specs.declared.step.Step.{Step}
use Rattle.sm_table.specs.declared.world_answer.WorldAnswer.{WorldAnswer}
use Rattle.sm_table.specs.declared.world_answer.WorldAnswer.TheVariants.{Made, Seen, Sent, Began, Forwarded, Refused}
use Rattle.sm_table.specs.declared.world_answer.WorldAnswer.TheVariants.{Replied, Way}
use Rattle.sm_table.specs.declared.world_fault.WorldFault.{WorldFault}
use Rattle.sm_table.specs.declared.world_fault.WorldFault.TheVariants as fault
use Rattle.sm_table.specs.Standing.{Follows, WorldView}
use Rattle.sm_table.specs.World.{WorldState, Mark, Plain, mark_of, outcome}
use Rattle.sm_session.specs.Service.{counter_text}
use Rattle.sm_model.specs.Calls.{answer_of, ends_in_step, stepped}
use Rattle.sm_model.proofs.Planning.{answered-steps}
use Rattle.sm_model.specs.Sessions.{Ends, GivesAnswer, HasAnswer, IsIdle}

-- a step that has an answer went as it should
pub plain_of_answer : (result : Result (WorldAnswer Reply) WorldFault) → is_some (answer_of result) ≡ true
    → mark_of result ≡ Plain
plain_of_answer (Ok Made) some = refl
plain_of_answer (Ok (Seen state)) some = refl
plain_of_answer (Ok Sent) some = refl
plain_of_answer (Ok (Began server)) some = refl
plain_of_answer (Ok (Forwarded server)) some = refl
plain_of_answer (Ok (Way route)) some = refl
plain_of_answer (Ok (Refused refusal.TooManyHops)) some = refl
plain_of_answer (Ok (Refused (refusal.Admit reason))) some = refl
plain_of_answer (Ok (Refused refusal.Unreachable)) some = refl
plain_of_answer (Ok (Refused refusal.KeptFull)) some = refl
plain_of_answer (Ok (Refused refusal.NoMemory)) some = cc
plain_of_answer (Ok (Replied number server reply place)) some = refl
plain_of_answer (Err (fault.Command reason)) some = refl
plain_of_answer (Err (fault.Admit reason)) some = refl
plain_of_answer (Err fault.UnknownShard) some = refl
plain_of_answer (Err fault.UnknownServer) some = refl
plain_of_answer (Err fault.Unreachable) some = refl
plain_of_answer (Err fault.NoEnvelope) some = refl
plain_of_answer (Err fault.NotHeld) some = refl
plain_of_answer (Err fault.OldRoute) some = refl
plain_of_answer (Err fault.WrongPhase) some = refl
plain_of_answer (Err fault.NoMemory) some = cc

-- a step that went as it should is one with ample memory
pub follows_plain : (view : WorldView Request) (w : WorldState Request) (step : Step Request)
    (result : Result (WorldAnswer Reply) WorldFault)
    → mark_of result ≡ Plain → Follows view result (outcome counter_text w (mark_of result) step)
    → Follows view result (stepped w step)
follows_plain view w step result plain =
    subst (λ (mark : Mark). Follows view result (outcome counter_text w mark step)) plain

-- if the session was at a world, the call ended there with an answer, unless memory was refused
pub has_answer : (before after : WorldView Request) (call : Call) (ended : Result (WorldAnswer Reply) WorldFault)
    → IsIdle before → Ends before call ended after → HasAnswer ended
has_answer before after call ended idle ends = λ plain. ((ends idle.0 idle.1).1 plain).answers

pub idle_after : (before after : WorldView Request) (call : Call) (ended : Result (WorldAnswer Reply) WorldFault)
    → IsIdle before → Ends before call ended after → IsIdle after
idle_after before after call ended idle ends = (ends idle.0 idle.1).0

-- the answer to a call that ended as it should
pub gives_answer : (before after : WorldView Request) (call : Call) (ended : Result (WorldAnswer Reply) WorldFault)
    (result : Result LineAnswer AllocError)
    → IfOk result (λ answer. answer_of ended ≡ Some answer) → ends_in_step call ≡ true → Ends before call ended after
    → IfOk result (λ answer. GivesAnswer before call answer after)
gives_answer before after call ended (Ok answer) is steps ends =
    λ w at. let end = (ends w at).1 (plain_of_answer ended (ap is_some is)) in
    (answered-steps w call steps ∙ (sym (ap answer_of end.answered) ∙ is), end.stands)
gives_answer before after call ended (Err fault) is steps ends = tt
