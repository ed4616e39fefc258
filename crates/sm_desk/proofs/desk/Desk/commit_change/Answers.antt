use Rattle.std.proofs.Common.{◌≡◌, None, ap, subst, sym, ◌∙◌}
use Rattle.sm_tasks.specs.Caps.{MeetsCaps}
use Rattle.sm_desk.specs.declared.command.Command.TheVariants.{Change as ChangeOf}
use Rattle.sm_desk.specs.Desk.{DeskView, desk_fault}
use Rattle.sm_desk.proofs.desk.Desk.commit_change.Goals as goal

pub invariant_of-self : goal.invariant_of-self
invariant_of-self c =
    let desk : DeskView = record { books = c.self.inside.books; caps = c.self.inside.tasks } in
    let allowed : desk_fault desk (ChangeOf c.args.k c.args.change.now) ≡ None =
    ap (λ one. desk_fault one (ChangeOf c.args.k c.args.change.now)) c.self.view_is ∙ c.requires.allowed in
    subst (MeetsCaps c.self.inside.tasks) (sym c.commit_change.ensures)
    (c.commands_keep_caps.ensures desk
    (ChangeOf c.args.k c.args.change.now) c.soundness.ensures c.self.invariant allowed)
