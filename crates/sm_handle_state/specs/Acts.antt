-- The effects of calls on the state of a handle.
use Rattle.std.specs.Prelude.{ℕ, ◌≡◌, ◌≤◌, ◌<◌, ◌+◌, ◌⊎◌, ⊤, true}
use Rattle.std.specs.Prelude.{Option, Some, None, is_some, Result, Ok, Err}
use Rattle.sm_ownership.specs.declared.mode.Mode.{Mode}
use Rattle.sm_ownership.specs.declared.record.Record.{Record}
use Rattle.sm_ownership.specs.declared.record.TheConstants.{MAX_GENERATION}
use Rattle.sm_rule.specs.Admissions.{RefusedBy}
use Rattle.sm_rule.specs.Passes.{PassLooks, record_of}
use Rattle.sm_rule.specs.Words.{IsWordOf}
use Rattle.sm_desk.specs.declared.command.Command.{Command}
use Rattle.sm_desk.specs.Desk.{desk_fault}
use Rattle.sm_foreign.specs.Chiefs.{HasNoServer, HasServer}
use Rattle.sm_foreign.specs.Controls.{Commanded}
use Rattle.sm_foreign.specs.Holding.{AdmitsPass, EndsPermit, HasNotActed, token_of}
use Rattle.sm_handle_state.specs.declared.act_fault.ActFault.{ActFault}
use Rattle.sm_handle_state.specs.declared.act_fault.ActFault.TheVariants.{WrongHandle, UnknownShard, NoMemory, Admit}
use Rattle.sm_handle_state.specs.declared.act_fault.ActFault.TheVariants.{Command as CommandRefused, UnknownServer}
use Rattle.sm_handle_state.specs.declared.handle_state.HandleState.{HandleState}
use Rattle.sm_handle_state.specs.declared.handle_state.HandleState.TheVariants.{Chief, Pass, TextChief, TextPass}

-- a pass that held nothing was admitted to the shard and holds the permit, and the number is that of the shard's body
abbrev pub AdmitsState : HandleState → HandleState → ℕ → Mode → ℕ → Type 0
AdmitsState (Pass before) (Pass after) shard mode number =
    (before.held.1 ≡ None) × AdmitsPass before.held after.held shard mode number
    × (after.fence.after ≡ before.fence.after)
AdmitsState before after shard mode number = ⊥

-- this is why no pass is admitted: the handle keeps no pass to foreign bodies without a permit, or its board doesn't
-- have this shard
abbrev pub AdmitsNowhere : Option HandleState → ℕ → ActFault → Type 0
AdmitsNowhere (Some (Pass pass)) shard WrongHandle = is_some pass.held.1 ≡ true
AdmitsNowhere (Some (Pass pass)) shard UnknownShard = pass.held.0.board.limits.count ≤ shard
AdmitsNowhere (Some (Pass pass)) shard fault = ⊥
AdmitsNowhere state shard fault = fault ≡ WrongHandle

-- a pass isn't admitted and has looked; or the state is as it was, and admits nowhere
abbrev pub RefusesState : HandleState → HandleState → ℕ → Mode → ActFault → Type 0
RefusesState (Pass before) (Pass after) shard mode (Admit refusal) =
    PassLooks before.held.0 after.held.0 × RefusedBy before.held.0 after.held.0 shard mode refusal
    × (after.held.1 ≡ before.held.1) × (after.fence.after ≡ before.fence.after)
RefusesState before after shard mode fault = (after ≡ before) × AdmitsNowhere (Some before) shard fault

-- the admission of the pass has ended, and it holds nothing
abbrev pub EndsState : HandleState → HandleState → ℕ → Type 0
EndsState (Pass before) (Pass after) generation =
    EndsPermit before.held.1 before.held.0 after.held.0 generation × (after.held.1 ≡ None)
    × (after.fence.after ≡ before.fence.after)
EndsState before after generation = ⊥

-- the handle keeps no pass that holds a permit
abbrev pub HoldsNothing : Option HandleState → Type 0
HoldsNothing (Some (Pass pass)) = pass.held.1 ≡ None
HoldsNothing state = ⊤

-- this is the fencing token of the admission that the pass holds; it is above the fence of the board, by at most the
-- generations of a board
abbrev pub TellsToken : Option HandleState → ℕ → Type 0
TellsToken (Some (Pass pass)) token =
    (token_of pass.fence.after pass.held.0 ≡ Some token) × (pass.fence.after < token)
    × (token ≤ pass.fence.after + MAX_GENERATION)
TellsToken state token = ⊥

-- the pass has seen more, in which this is the shard's record, and its hold is as it was
abbrev pub LooksState : HandleState → HandleState → ℕ → Record → Type 0
LooksState (Pass before) (Pass after) shard state =
    PassLooks before.held.0 after.held.0 × (after.held.1 ≡ before.held.1) × (state ≡ record_of after.held.0 shard)
    × (after.fence.after ≡ before.fence.after)
LooksState (TextPass before) (TextPass after) shard state = PassLooks before after × (state ≡ record_of after shard)
LooksState before after shard state = ⊥

-- why no pass looks: the handle keeps none, or its board doesn't have this shard
abbrev pub LooksNowhere : Option HandleState → ℕ → ActFault → Type 0
LooksNowhere (Some (Pass pass)) shard fault = (fault ≡ UnknownShard) × (pass.held.0.board.limits.count ≤ shard)
LooksNowhere (Some (TextPass pass)) shard fault = (fault ≡ UnknownShard) × (pass.board.limits.count ≤ shard)
LooksNowhere state shard fault = fault ≡ WrongHandle

-- the handle keeps no control
abbrev pub KeepsNoControl : Option HandleState → Type 0
KeepsNoControl (Some (Chief chief)) = ⊥
KeepsNoControl (Some (TextChief chief)) = ⊥
KeepsNoControl state = ⊤

-- the handle keeps a control whose books have no such server
abbrev pub KnowsNoServer : Option HandleState → Option ℕ → Type 0
KnowsNoServer (Some (Chief chief)) server = HasNoServer chief.held.value.desk.books server
KnowsNoServer (Some (TextChief chief)) server = HasNoServer chief.value.desk.books server
KnowsNoServer state server = ⊥

-- why there is no new pass of this server: the handle keeps no control, its board hasn't the server, or memory was
-- refused
abbrev pub GivesNoPass : Option HandleState → Option ℕ → ActFault → Type 0
GivesNoPass state server fault =
    ((fault ≡ WrongHandle) × KeepsNoControl state) ⊎ ((fault ≡ UnknownServer) × KnowsNoServer state server)
    ⊎ (fault ≡ NoMemory)

-- the control answers the command and has the state after it; or there is none, and the state is as it was
abbrev pub CommandsState : HandleState → HandleState → Command → Result (Unit {0}) ActFault → Type 0
CommandsState (Chief before) (Chief after) command (Ok made) =
    Commanded (desk_fault before.held.value.desk command) before.held.value after.held.value command (Ok tt)
    × (after.fence.after ≡ before.fence.after)
CommandsState (Chief before) (Chief after) command (Err (CommandRefused fault)) =
    Commanded (desk_fault before.held.value.desk command) before.held.value after.held.value command (Err fault)
    × (after.fence.after ≡ before.fence.after)
CommandsState (TextChief before) (TextChief after) command (Ok made) =
    Commanded (desk_fault before.value.desk command) before.value after.value command (Ok tt)
CommandsState (TextChief before) (TextChief after) command (Err (CommandRefused fault)) =
    Commanded (desk_fault before.value.desk command) before.value after.value command (Err fault)
CommandsState before after command (Ok made) = ⊥
CommandsState before after command (Err fault) =
    (fault ≡ WrongHandle) × (after ≡ before) × KeepsNoControl (Some before)

-- a new pass on the board of the control and with its fence, which holds nothing, with this server, which the board
-- has, or none
abbrev pub IsPassOfState : HandleState → Option ℕ → HandleState → Type 0
IsPassOfState (Chief chief) server (Pass pass) =
    (pass.held.0.board ≡ chief.held.value.chair.board) × (pass.held.0.server ≡ server) × (pass.held.1 ≡ None)
    × HasServer chief.held.value.desk.books server × (pass.fence.after ≡ chief.fence.after) × HasNotActed pass.held.0
IsPassOfState (TextChief chief) server (TextPass pass) =
    (pass.board ≡ chief.value.chair.board) × (pass.server ≡ server) × HasServer chief.value.desk.books server
    × HasNotActed pass
IsPassOfState chief server pass = ⊥

-- the same of handles, which keep a state or none
abbrev pub AdmitsHandle : Option HandleState → Option HandleState → ℕ → Mode → ℕ → Type 0
AdmitsHandle (Some before) (Some after) shard mode number = AdmitsState before after shard mode number
AdmitsHandle before after shard mode number = ⊥

-- the same of a refusal; a handle without a state keeps none
abbrev pub RefusesHandle : Option HandleState → Option HandleState → ℕ → Mode → ActFault → Type 0
RefusesHandle (Some before) (Some after) shard mode fault = RefusesState before after shard mode fault
RefusesHandle before after shard mode fault = (before ≡ None) × (after ≡ None) × (fault ≡ WrongHandle)

-- the same of the end of an admission
abbrev pub EndsHandle : Option HandleState → Option HandleState → ℕ → Type 0
EndsHandle (Some before) (Some after) generation = EndsState before after generation
EndsHandle before after generation = ⊥

-- the same of a look
abbrev pub LooksHandle : Option HandleState → Option HandleState → ℕ → Record → Type 0
LooksHandle (Some before) (Some after) shard state = LooksState before after shard state
LooksHandle before after shard state = ⊥

-- the same of a look that tells the record's word
abbrev pub TellsWord : Option HandleState → Option HandleState → ℕ → ℕ → Type 0
TellsWord before after shard word = (state : Record) × LooksHandle before after shard state × IsWordOf state word

-- the same of a command; a handle without a state is the wrong one
abbrev pub CommandsHandle : Option HandleState → Option HandleState → Command → Result (Unit {0}) ActFault → Type 0
CommandsHandle (Some before) (Some after) command result = CommandsState before after command result
CommandsHandle before after command result = (before ≡ None) × (after ≡ None) × (result ≡ Err WrongHandle)

-- the same of a new pass
abbrev pub IsPassOf : Option HandleState → Option HandleState → Option ℕ → Type 0
IsPassOf (Some chief) (Some pass) server = IsPassOfState chief server pass
IsPassOf chief pass server = ⊥
