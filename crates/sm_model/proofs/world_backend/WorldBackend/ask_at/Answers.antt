use Rattle.std.proofs.Common.{subst, refl, IfOk}
use Rattle.sm_script.specs.declared.call.Call.TheVariants.{RequestAt}
use Rattle.sm_service.specs.declared.request.Request.{Request}
use Rattle.sm_table.specs.Standing.{WorldView}
use Rattle.sm_model.specs.Sessions.{GivesAnswer}
use Rattle.sm_model.proofs.Answering.{gives_answer, has_answer, idle_after}
use Rattle.sm_model.proofs.world_backend.WorldBackend.ask_at.Goals as goal

pub answer_of-requires : goal.answer_of-requires
answer_of-requires c =
    has_answer _ _ (RequestAt c.args.server c.args.request) _ c.self.invariant c.run_request_at.ensures

pub invariant_of-self : goal.invariant_of-self
invariant_of-self c =
    idle_after _ _ (RequestAt c.args.server c.args.request) _ c.self.invariant c.run_request_at.ensures

pub returns : goal.returns
returns c =
    subst (λ (before : WorldView Request). IfOk c.answer_of.result
    (λ answer. GivesAnswer before (RequestAt c.args.server c.args.request) answer c.run_request_at.new.world))
    c.self.view_is
    (gives_answer _ _ (RequestAt c.args.server c.args.request) _ c.answer_of.result c.answer_of.ensures.ok refl
    c.run_request_at.ensures)
