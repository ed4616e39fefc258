-- Plans that handles keep.
use Rattle.std.specs.Prelude.{ℕ, ◌≡◌, ⊤, slice_get, Option, Some, None}
use Rattle.sm_foreign.specs.Chiefs.{HasNoServer, planned_for}
use Rattle.sm_place.specs.declared.plan.Move.{Move}
use Rattle.sm_handle_state.specs.Acts.{KeepsNoControl}
use Rattle.sm_handle_state.specs.declared.act_fault.ActFault.{ActFault}
use Rattle.sm_handle_state.specs.declared.act_fault.ActFault.TheVariants.{NoMemory, NoMore, UnknownServer, WrongHandle}
use Rattle.sm_handle_state.specs.declared.handle_state.HandleState.{HandleState}
use Rattle.sm_handle_state.specs.declared.handle_state.HandleState.TheVariants.{Chief, Plan, TextChief}

-- the plan of the control's books
abbrev pub IsPlanOf : Option HandleState → Option HandleState → Option ℕ → Type 0
IsPlanOf (Some (Chief chief)) (Some (Plan plan)) from = plan ≡ planned_for chief.held.value.desk.books from
IsPlanOf (Some (TextChief chief)) (Some (Plan plan)) from = plan ≡ planned_for chief.value.desk.books from
IsPlanOf chief plan from = ⊥

-- why there is no plan: the handle keeps no control, or its books have nothing to plan, or memory was refused
abbrev pub HasNoPlan : Option HandleState → Option ℕ → ActFault → Type 0
HasNoPlan (Some (Chief chief)) from UnknownServer = HasNoServer chief.held.value.desk.books from
HasNoPlan (Some (TextChief chief)) from UnknownServer = HasNoServer chief.value.desk.books from
HasNoPlan chief from NoMemory = ⊤
HasNoPlan chief from fault = (fault ≡ WrongHandle) × KeepsNoControl chief

-- the move at this place of the plan
abbrev pub IsMove : Option HandleState → ℕ → Move → Type 0
IsMove (Some (Plan plan)) at step = slice_get plan.moves at ≡ Some step
IsMove state at step = ⊥

-- why there is no move: the handle keeps no plan, or one that has none at this place
abbrev pub HasNoMove : Option HandleState → ℕ → ActFault → Type 0
HasNoMove (Some (Plan plan)) at fault = (fault ≡ NoMore) × (slice_get plan.moves at ≡ None)
HasNoMove state at fault = fault ≡ WrongHandle

-- the shard at this place of those that the plan leaves
abbrev pub IsLeftOut : Option HandleState → ℕ → ℕ → Type 0
IsLeftOut (Some (Plan plan)) at shard = slice_get plan.left at ≡ Some shard
IsLeftOut state at shard = ⊥

-- why there is no such shard: the handle keeps no plan, or one that leaves none at this place
abbrev pub HasNotLeft : Option HandleState → ℕ → ActFault → Type 0
HasNotLeft (Some (Plan plan)) at fault = (fault ≡ NoMore) × (slice_get plan.left at ≡ None)
HasNotLeft state at fault = fault ≡ WrongHandle
