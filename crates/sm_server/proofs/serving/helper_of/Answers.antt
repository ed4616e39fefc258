use Rattle.std.proofs.Common.{sym, ◌∙◌}
use Rattle.sm_server.proofs.Helpers.{new_helper}
use Rattle.sm_server.proofs.serving.helper_of.Goals as goal

pub returns-clause-helper : goal.returns-clause-helper
returns-clause-helper g c =
    let split = c.split-helper.ensures in
    new_helper c.args.pass.now c.args.note c.split-helper.result c.meet.new.pass (split.board ∙ sym c.requires.board)
    split.server split.held split.number.2 split.seen c.meet.ensures.looks c.meet.ensures.met
