use Rattle.sm_ownership.specs.declared.entry.Kind.TheVariants.{Done}
use Rattle.sm_rule.specs.Bodies.{ending_between}
use Rattle.sm_rule.specs.Views.{list_held}
use Rattle.sm_rule.proofs.board.Board.finish.Given as goal

abbrev pub ghosts-finish_as : goal.ghosts-finish_as
ghosts-finish_as g a =
    record { kind = Done (ending_between (list_held a.pass.now.held) (g.S.Service.requests a.permit.body)) }
