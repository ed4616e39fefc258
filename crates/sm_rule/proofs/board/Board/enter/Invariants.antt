use Rattle.std.specs.Prelude.{unwrap_or}
use Rattle.sm_ownership.specs.declared.entry.Kind.TheVariants.{Admit}
use Rattle.sm_rule.proofs.board.Board.enter.Given as goal

abbrev pub ghosts-enter_as : goal.ghosts-enter_as
ghosts-enter_as g a = record { kind = Admit (unwrap_or a.pass.now.server 0) a.mode }
