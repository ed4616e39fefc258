use Rattle.sm_rule.proofs.board.Board.pass.Given as goal

abbrev pub ghosts-pass_as : goal.ghosts-pass_as
ghosts-pass_as g a = record { server = a.server }
