-- How passes in handles tell each other how much they have seen.
use Rattle.std.specs.Prelude.{◌≡◌, ◌⊎◌, ⊤, Option, Some, None, is_some, true}
use Rattle.sm_rule.specs.Passes.{PassLooks}
use Rattle.sm_rule.specs.Views.{Begins, IsMet}
use Rattle.sm_handle_state.specs.declared.act_fault.ActFault.{ActFault}
use Rattle.sm_handle_state.specs.declared.act_fault.ActFault.TheVariants.{NoMemory, WrongHandle}
use Rattle.sm_handle_state.specs.declared.handle_state.HandleState.{HandleState}
use Rattle.sm_handle_state.specs.declared.handle_state.HandleState.TheVariants.{Answer, Pass, TextPass}

-- a pass with the server and on the board of the other one, which has seen all that the other has
abbrev pub IsSplitFrom : Option HandleState → Option HandleState → Type 0
IsSplitFrom (Some (Pass from)) (Some (Pass pass)) =
    (pass.held.0.board ≡ from.held.0.board) × (pass.held.0.server ≡ from.held.0.server)
    × Begins from.held.0.seen pass.held.0.seen × (pass.held.1 ≡ None) × (pass.fence.after ≡ from.fence.after)
IsSplitFrom (Some (TextPass from)) (Some (TextPass pass)) =
    (pass.board ≡ from.board) × (pass.server ≡ from.server) × Begins from.seen pass.seen
IsSplitFrom from pass = ⊥

-- why there is no such pass: the handle keeps none, or one that holds a permit, or memory was refused
abbrev pub SplitsNothing : Option HandleState → ActFault → Type 0
SplitsNothing (Some (Pass from)) WrongHandle = is_some from.held.1 ≡ true
SplitsNothing (Some (TextPass from)) WrongHandle = ⊥
SplitsNothing from WrongHandle = ⊤
SplitsNothing from NoMemory = ⊤
SplitsNothing from fault = ⊥

-- if both are passes, or one is and the other an answer, they are of one board
abbrev pub AreOfOneBoard : Option HandleState → Option HandleState → Type 0
AreOfOneBoard (Some (Pass pass)) (Some (Pass other)) = other.held.0.board ≡ pass.held.0.board
AreOfOneBoard (Some (TextPass pass)) (Some (TextPass other)) = other.board ≡ pass.board
AreOfOneBoard (Some (TextPass pass)) (Some (Answer answer)) = answer.note.board ≡ pass.board
AreOfOneBoard pass other = ⊤

-- the pass has looked, and has seen everything that the other one had seen
abbrev pub MeetsHandle : Option HandleState → Option HandleState → Option HandleState → Type 0
MeetsHandle (Some (Pass before)) (Some (Pass other)) (Some (Pass after)) =
    PassLooks before.held.0 after.held.0 × (after.held.1 ≡ before.held.1)
    × IsMet other.held.0.number other.held.0.seen after.held.0.seen × (after.fence.after ≡ before.fence.after)
MeetsHandle (Some (TextPass before)) (Some (TextPass other)) (Some (TextPass after)) =
    PassLooks before after × IsMet other.number other.seen after.seen
MeetsHandle (Some (TextPass before)) (Some (Answer answer)) (Some (TextPass after)) =
    PassLooks before after × IsMet answer.note.number answer.note.seen after.seen
MeetsHandle before other after = ⊥

-- the handle keeps no pass to foreign bodies, or one that holds a permit
abbrev pub KeepsNoFreePass : Option HandleState → Type 0
KeepsNoFreePass (Some (Pass pass)) = is_some pass.held.1 ≡ true
KeepsNoFreePass state = ⊤

-- the handle keeps no pass of a board of the sample service
abbrev pub KeepsNoTextPass : Option HandleState → Type 0
KeepsNoTextPass (Some (TextPass pass)) = ⊥
KeepsNoTextPass state = ⊤

-- the second handle keeps no pass or answer, or the first one no pass of its kind, or one of them holds a permit
abbrev pub TellsNothing : Option HandleState → Option HandleState → Type 0
TellsNothing pass (Some (Pass other)) = KeepsNoFreePass pass ⊎ (is_some other.held.1 ≡ true)
TellsNothing pass (Some (TextPass other)) = KeepsNoTextPass pass
TellsNothing pass (Some (Answer answer)) = KeepsNoTextPass pass
TellsNothing pass other = ⊤
