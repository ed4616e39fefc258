-- The state that a handle lends.
use Rattle.std.specs.Prelude.{Some}
use Rattle.std.specs.Borrow.{Fml, Lends, MutBor}
use Rattle.sm_relay.specs.declared.relay_server.RelayServer.{RelayServer}
use Rattle.sm_relay.specs.declared.owned_relay.OwnedRelay.{OwnedRelay}
use Rattle.sm_relay.specs.contracts.relay_server.RelayServer as State
use Rattle.sm_relay.specs.contracts.owned_relay.OwnedRelay.{the_row}

-- the owner of this state in place of its own
abbrev pub owning_relay : OwnedRelay → RelayServer → OwnedRelay
owning_relay owned state = record { ptr = owned.ptr; alloc = owned.alloc; state = Some state }

-- once the loan ends, the last state that was written is owned
abbrev pub LendsRelay : MutBor OwnedRelay → MutBor RelayServer → Fml
LendsRelay owned lent = Lends the_row State.the_row owned lent (owning_relay owned.now)
