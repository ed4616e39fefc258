use Rattle.std.proofs.Common.{subst, IfOk}
use Rattle.sm_service.specs.declared.request.Request.{Request}
use Rattle.sm_table.specs.Standing.{WorldView}
use Rattle.sm_model.specs.Sessions.{GivesAnswer}
use Rattle.sm_model.proofs.Answering.{gives_answer, has_answer, idle_after}
use Rattle.sm_model.proofs.world_backend.WorldBackend.make.Goals as goal

pub answer_of-requires : goal.answer_of-requires
answer_of-requires c = has_answer _ _ _ _ c.self.invariant c.carry_out.ensures

pub invariant_of-self : goal.invariant_of-self
invariant_of-self c = idle_after _ _ _ _ c.self.invariant c.carry_out.ensures

pub returns : goal.returns
returns c =
    subst (λ (before : WorldView Request). IfOk c.answer_of.result
    (λ answer. GivesAnswer before c.args.call answer c.carry_out.new.world)) c.self.view_is
    (gives_answer _ _ _ _ c.answer_of.result c.answer_of.ensures.ok c.requires c.carry_out.ensures)
