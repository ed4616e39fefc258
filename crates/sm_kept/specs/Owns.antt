-- The things that an owner of a state owns: nothing, or everything that a box of the state owns.
use base.Fml.{Fml, ftrue}
use denote.RattleType.{RattleType}
use denote.RawPtr.{Ptr}
use Rattle.std.specs.Prelude.{Option, Some, None}
use Rattle.std.specs.Box.Ownership.{box_owns}
use Rattle.std.specs.Global.{Global}
use Rattle.std.specs.contracts.impls.GlobalAllocator.TheImpl.{ghosts}

abbrev pub state_owns : (R : RattleType) → Global → Ptr → Option R.Denot → Fml
state_owns R alloc ptr None = ftrue
state_owns R alloc ptr (Some state) = box_owns (ghosts.dealloc_token alloc) R ptr state
