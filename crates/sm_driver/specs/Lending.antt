-- The state that a handle lends.
use Rattle.std.specs.Prelude.{Some}
use Rattle.std.specs.Borrow.{Fml, Lends, MutBor}
use Rattle.sm_driver.specs.declared.text_server.TextServer.{TextServer}
use Rattle.sm_driver.specs.declared.owned_server.OwnedServer.{OwnedServer}
use Rattle.sm_driver.specs.contracts.text_server.TextServer as State
use Rattle.sm_driver.specs.contracts.owned_server.OwnedServer.{the_row}

-- the owner of this state in place of its own
abbrev pub owning_server : OwnedServer → TextServer → OwnedServer
owning_server owned state = record { ptr = owned.ptr; alloc = owned.alloc; state = Some state }

-- once the loan ends, the last state that was written is owned
abbrev pub LendsServer : MutBor OwnedServer → MutBor TextServer → Fml
LendsServer owned lent = Lends the_row State.the_row owned lent (owning_server owned.now)
