-- The effect of the call that replaces a director's settings by those of another director.
use Rattle.std.specs.Prelude.{ℕ, ◌≡◌, ◌≢◌, ◌⊎◌, List, Option, Some, None, length, take, unwrap_or}
use Rattle.std.specs.Global.{Vec}
use Rattle.sm_codec.specs.Spelling.{process_bytes}
use Rattle.sm_lead.specs.declared.resettle_fault.ResettleFault.{ResettleFault}
use Rattle.sm_lead.specs.declared.resettle_fault.ResettleFault.TheVariants.{OtherShards, InUse}
use Rattle.sm_lead.specs.declared.store_control.StoreControl.{StoreControl}
use Rattle.sm_lead.specs.Controls.{GoesByStore, KnowsStore, settings_held}
use Rattle.sm_lead.specs.Placements.{SettingsReading, charter_of}
use Rattle.sm_lead.specs.Resettlings.{resettle_fault, resettling}
use Rattle.sm_store.specs.declared.item.Item.{Item}
use Rattle.sm_store.specs.Deeds.{AreRight, MaySend}
use Rattle.sm_store.specs.Store.{Transaction}
use Rattle.sm_director.specs.declared.command_numbers.CommandNumbers.{CommandNumbers}
use Rattle.sm_director.specs.declared.director.Director.{Director}
use Rattle.sm_director.specs.declared.director_fault.DirectorFault.{DirectorFault}
use Rattle.sm_director.specs.declared.director_fault.DirectorFault.TheVariants.{Memory, Resettle, TooShort}
use Rattle.sm_director.specs.declared.director_stage.DirectorStage.TheVariants.{Stands}
use Rattle.sm_director.specs.Kinds.{resettle_code}
use Rattle.sm_director.specs.Refusals.{HasNoControl}

-- both handles keep directors, with this relation between them
abbrev pub KeepsBoth : (Director → Director → Type 0) → Option Director → Option Director → Type 0
KeepsBoth holds (Some one) (Some other) = holds one other
KeepsBoth holds one other = ⊥

-- the numbers and the bytes are those of the transaction, except for the settings
pub record SpellsResettling (control : StoreControl) (numbers : CommandNumbers) (written : List ℕ) : Type 0 where
  pub elected : numbers.elected ≡ control.lead.elected
  pub placed : numbers.placed ≡ control.placed
  pub absent : numbers.absent ≡ 0
  pub length_is : numbers.length ≡ 0
  pub commands : numbers.commands_length ≡ length (process_bytes control.lead.process)
  pub bytes : take numbers.commands_length written ≡ process_bytes control.lead.process

-- the transaction that writes the settings of the drafted control may be sent in every store in which the knowledge of
-- both controls is true, and whose settings in force are the first one's
abbrev pub IsAllowedResettling : StoreControl → StoreControl → Type 0
IsAllowedResettling control drafted =
    (reading : SettingsReading) (parts : List (Item (Vec ℕ)) → List (Vec ℕ))
    (log : List (Transaction (Vec ℕ) (Vec ℕ))) (settings : List ℕ)
    → AreRight (charter_of reading control.waits parts) log
    → GoesByStore reading.settings log control → KnowsStore log drafted
    → reading.settings settings ≡ Some (settings_held drafted)
    → MaySend (charter_of reading control.waits parts) log (resettling control settings)

-- there are both controls, with settings of the same layout, and those of the one may replace the other's
pub record SendsSettings (director other : Director) (numbers : CommandNumbers) (written : List ℕ) : Type 0 where
  pub control : StoreControl
  pub drafted : StoreControl
  pub stands : director.stage ≡ Stands control
  pub other_stands : other.stage ≡ Stands drafted
  pub layout : other.settings.layout ≡ director.settings.layout
  pub allowed : resettle_fault control drafted ≡ None
  pub may_send : IsAllowedResettling control drafted
  pub spelled : SpellsResettling control numbers written

-- there are both controls, and this is why the settings may not be replaced: the layouts differ, or the first fault of
-- the controls
pub record RefusesResettlingFor (director other : Director) (why : ResettleFault) : Type 0 where
  pub control : StoreControl
  pub drafted : StoreControl
  pub stands : director.stage ≡ Stands control
  pub other_stands : other.stage ≡ Stands drafted
  pub because : ((why ≡ OtherShards) × (other.settings.layout ≢ director.settings.layout))
      ⊎ (resettle_fault control drafted ≡ Some why)

-- the settings are refused for that reason; or memory was refused, or there is no room for the result; or one of the
-- controls is missing
abbrev pub RefusesResettling : Director → Director → DirectorFault → Type 0
RefusesResettling director other (Resettle why) = RefusesResettlingFor director other why
RefusesResettling director other Memory = Unit {0}
RefusesResettling director other TooShort = Unit {0}
RefusesResettling director other fault = HasNoControl director fault ⊎ HasNoControl other fault

-- the server that the settings would take out
abbrev pub in_use_of : ResettleFault → Option ℕ
in_use_of (InUse server) = Some server
in_use_of _ = None

-- the same, of any fault
abbrev pub in_use : DirectorFault → Option ℕ
in_use (Resettle why) = in_use_of why
in_use _ = None

-- the fault is that of settings, and has this code
abbrev pub IsOfSettings : DirectorFault → ℕ → Type 0
IsOfSettings fault code = (why : ResettleFault) × (fault ≡ Resettle why) × (code ≡ resettle_code why)

-- the settings are refused, for the fault of this code, with this server
abbrev pub RefusesByCode : Director → Director → ℕ → ℕ → Type 0
RefusesByCode director other code server =
    (why : ResettleFault) × (code ≡ resettle_code why) × (server ≡ unwrap_or (in_use_of why) 0)
    × RefusesResettlingFor director other why
