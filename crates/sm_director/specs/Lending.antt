-- The state that a handle lends.
use Rattle.std.specs.Prelude.{Some}
use Rattle.std.specs.Borrow.{Fml, Lends, MutBor}
use Rattle.sm_director.specs.declared.director.Director.{Director}
use Rattle.sm_director.specs.declared.owned_director.OwnedDirector.{OwnedDirector}
use Rattle.sm_director.specs.contracts.director.Director as State
use Rattle.sm_director.specs.contracts.owned_director.OwnedDirector.{the_row}

-- the owner of this state in place of its own
abbrev pub owning_director : OwnedDirector → Director → OwnedDirector
owning_director owned state = record { ptr = owned.ptr; alloc = owned.alloc; state = Some state }

-- once the loan ends, the last state that was written is owned
abbrev pub LendsDirector : MutBor OwnedDirector → MutBor Director → Fml
LendsDirector owned lent = Lends the_row State.the_row owned lent (owning_director owned.now)
