-- The pass with which a cluster tells the effects of its calls.
use Rattle.std.specs.Prelude.{◌≡◌, List, None}
use Rattle.sm_ownership.specs.declared.entry.Entry.{Entry}
use Rattle.sm_rule.specs.Boards.{BoardValue}
use Rattle.sm_rule.specs.Passes.{PassValue}
use Rattle.sm_rule.specs.Views.{Begins}

-- a pass of the board that holds nothing, and has seen the whole of a history
abbrev pub IsTeller : {Q : Type 0} → BoardValue → List (Entry Q) → PassValue Q → Type 0
IsTeller board history teller = (teller.board ≡ board) × (teller.held ≡ None) × Begins history teller.seen
