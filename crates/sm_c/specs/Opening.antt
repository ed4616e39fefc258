-- The codes of a settings line's faults.
use Rattle.std.specs.Prelude.{ℕ, ◌≡◌, List, Err}
use Rattle.sm_handle.specs.declared.settings_open_fault.SettingsOpenFault.{SettingsOpenFault}
use Rattle.sm_handle.specs.declared.settings_open_fault.SettingsOpenFault.TheVariants.{Open, Settings}
use Rattle.sm_settings.specs.SettingsLine.{settings_of}
use Rattle.sm_settings.specs.declared.settings_fault.SettingsFault.{SettingsFault}
use Rattle.sm_settings.specs.declared.settings_fault.SettingsFault.TheVariants.{TooLong, BadJson, BadVersion, BadShape}
use Rattle.sm_settings.specs.declared.settings_fault.SettingsFault.TheVariants.{BadLayout, BadServers, BadGroups}
use Rattle.sm_settings.specs.declared.settings_fault.SettingsFault.TheVariants.{BadShards, BadOps, BadKept, BadCeiling}
use Rattle.sm_settings.specs.declared.settings_fault.SettingsFault.TheVariants.{BadWorkers, BadDomains, TooManyWorkers}
use Rattle.sm_settings.specs.declared.settings_fault.SettingsFault.TheVariants.{NoMemory}
use Rattle.sm_c.specs.Codes.{open_fault_code}

-- the code of a fault
abbrev pub settings_code : SettingsFault → ℕ
settings_code NoMemory = 3
settings_code TooLong = 70
settings_code BadJson = 71
settings_code BadVersion = 72
settings_code BadShape = 73
settings_code BadLayout = 74
settings_code BadServers = 75
settings_code BadGroups = 76
settings_code BadShards = 77
settings_code BadOps = 78
settings_code BadKept = 79
settings_code BadCeiling = 80
settings_code BadWorkers = 81
settings_code BadDomains = 82
settings_code TooManyWorkers = 83

-- the code of why a line opens no board
abbrev pub settings_open_code : SettingsOpenFault → ℕ
settings_open_code (Settings fault) = settings_code fault
settings_open_code (Open fault) = open_fault_code fault

-- the line has the fault of this code
abbrev pub HasFault : List ℕ → ℕ → Type 0
HasFault line code = (fault : SettingsFault) × (settings_of line ≡ Err fault) × (code ≡ settings_code fault)
