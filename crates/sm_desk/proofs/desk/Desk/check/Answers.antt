use Rattle.std.proofs.Common.{◌∙◌, ap, sym}
use Rattle.sm_desk.specs.Desk.{desk_fault}
use Rattle.sm_desk.specs.declared.command.Command.TheVariants.{Approve}
use Rattle.sm_desk.proofs.desk.Desk.check.Goals as goal

pub returns-in-Approve : goal.returns-in-Approve
returns-in-Approve c =
    c.check_approve.ensures ∙ ap (λ one. desk_fault one (Approve c.in-Approve.a)) c.self.view_is
    ∙ sym (ap (λ one. desk_fault c.args.self.now one) c.in-Approve.is)
