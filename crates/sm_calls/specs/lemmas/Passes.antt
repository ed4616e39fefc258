-- The histories that new passes have seen.
use Rattle.std.proofs.Common.{◌≡◌, ℕ, List, [], sym, ◌∙◌}
use Rattle.std.proofs.lemmas.List.{append-nil}
use Rattle.sm_ownership.specs.declared.entry.Entry.{Entry}
use Rattle.sm_rule.specs.Boards.{BoardValue}
use Rattle.sm_rule.specs.Passes.{PassValue}
use Rattle.sm_rule.specs.Views.{Begins}
use Rattle.sm_rule.specs.lemmas.Passing.{begins_begins}
use Rattle.sm_calls.specs.Passes.{IsNewPass}

pub begins_same : {Q : Type 0} (history : List (Entry Q)) → Begins history history
begins_same history = ([], sym (append-nil history))

-- a new pass that was told something was also told less
pub new_told : {Q : Type 0} (board other : BoardValue) (server : ℕ) (told earlier : List (Entry Q)) (pass : PassValue Q)
    → board ≡ other → Begins earlier told → IsNewPass board server told pass → IsNewPass other server earlier pass
new_told board other server told earlier pass board_is begins new = record {
  board_is = new.board_is ∙ board_is;
  server_is = new.server_is;
  free = new.free;
  legal = new.legal;
  seen = begins_begins earlier told pass.seen begins new.seen;
  new = new.new;
}
