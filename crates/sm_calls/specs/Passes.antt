-- New passes.
use Rattle.std.specs.Prelude.{ℕ, ◌≡◌, List, Some, None}
use Rattle.sm_ownership.specs.declared.entry.Entry.{Entry}
use Rattle.sm_ownership.specs.History.{NoneBy}
use Rattle.sm_rule.specs.Boards.{BoardValue}
use Rattle.sm_rule.specs.Passes.{HasLegalFront, PassValue}
use Rattle.sm_rule.specs.Views.{Begins}

-- a new pass of the board and the server, which holds nothing: it has seen a legal history that extends the one that it
-- was told, in which it has no entry
pub record IsNewPass {Q : Type 0} (board : BoardValue) (server : ℕ) (told : List (Entry Q))
    (pass : PassValue Q) : Type 0 where
  pub board_is : pass.board ≡ board
  pub server_is : pass.server ≡ Some server
  pub free : pass.held ≡ None
  pub legal : HasLegalFront pass
  pub seen : Begins told pass.seen
  pub new : NoneBy pass.number pass.seen
