-- Which settings may come in place of a control's, and the transaction of those that are sent.
use Rattle.std.specs.Prelude.{ℕ, Bool, ◌==◌, ◌&&◌, if◌then◌else◌, not, Option, Some, List, find, length}
use Rattle.std.specs.Option.{option_map}
use Rattle.sm_desk.specs.Desk.{DeskView, is_known, is_reached}
use Rattle.sm_store.specs.Store.{Transaction}
use Rattle.sm_store.specs.Deeds.{Resettling, transaction_of}
use Rattle.sm_lead.specs.declared.resettle_fault.ResettleFault.{ResettleFault}
use Rattle.sm_lead.specs.declared.resettle_fault.ResettleFault.TheVariants.{Apart, OtherShards, OtherCeiling, InUse}
use Rattle.sm_lead.specs.declared.store_control.StoreControl.{StoreControl}

-- requests reach the server, and the other desk has no row of it
abbrev pub is_in_use : DeskView → DeskView → ℕ → Bool
is_in_use desk other server = is_reached desk server && not (is_known other.books.servers server)

-- the first such server
abbrev pub first_in_use : DeskView → DeskView → Option ℕ
first_in_use desk other = option_map (λ row. row.id) (find (λ row. is_in_use desk other row.id) desk.books.servers)

-- why the settings of the other control may not come in place of this one's
abbrev pub resettle_fault : StoreControl → StoreControl → Option ResettleFault
resettle_fault control other =
    if not (other.placed == control.placed) then Some Apart
    else if not (length other.desk.books.shards == length control.desk.books.shards) then Some OtherShards
    else if not (other.ceiling == control.ceiling) then Some OtherCeiling
    else option_map InUse (first_in_use control.desk other.desk)

-- the transaction by which a control writes other settings
abbrev pub resettling : {Q P : Type 0} → StoreControl → List ℕ → Transaction Q P
resettling control settings =
    transaction_of (Resettling control.lead.process settings control.lead.elected control.placed)
