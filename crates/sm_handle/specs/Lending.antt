-- The state that a handle lends.
use Rattle.std.specs.Prelude.{Some}
use Rattle.std.specs.Borrow.{Fml, Lends, MutBor}
use Rattle.sm_handle_state.specs.declared.handle_state.HandleState.{HandleState}
use Rattle.sm_handle.specs.declared.owned.Owned.{Owned}
use Rattle.sm_handle_state.specs.contracts.handle_state.HandleState as State
use Rattle.sm_handle.specs.contracts.owned.Owned.{the_row}

-- the owner of this state in place of its own
abbrev pub owning_state : Owned → HandleState → Owned
owning_state owned state = record { ptr = owned.ptr; alloc = owned.alloc; state = Some state }

-- once the loan ends, the last state that was written is owned
abbrev pub LendsState : MutBor Owned → MutBor HandleState → Fml
LendsState owned lent = Lends the_row State.the_row owned lent (owning_state owned.now)
