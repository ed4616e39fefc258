use Rattle.sm_ownership.specs.declared.entry.Kind.TheVariants.{Change as Changed}
use Rattle.sm_rule.proofs.board.Board.change_to.Given as goal

abbrev pub ghosts-change_as : goal.ghosts-change_as
ghosts-change_as g a = record { kind = Changed a.change.now }
