-- The texts of the faults.
use Rattle.std.specs.Prelude.{ℕ, List, codes}
use Rattle.sm_settings.specs.declared.settings_fault.SettingsFault.{SettingsFault}
use Rattle.sm_settings.specs.declared.settings_fault.SettingsFault.TheVariants.{TooLong, BadJson, BadVersion, BadShape}
use Rattle.sm_settings.specs.declared.settings_fault.SettingsFault.TheVariants.{BadLayout, BadServers, BadGroups}
use Rattle.sm_settings.specs.declared.settings_fault.SettingsFault.TheVariants.{BadShards, BadOps, BadKept, BadCeiling}
use Rattle.sm_settings.specs.declared.settings_fault.SettingsFault.TheVariants.{BadWorkers, BadDomains, TooManyWorkers}
use Rattle.sm_settings.specs.declared.settings_fault.SettingsFault.TheVariants.{NoMemory}

-- a fault as it is written in the answer to a settings line
abbrev pub settings_fault_name : SettingsFault → List ℕ
settings_fault_name TooLong = codes "TooLong"
settings_fault_name BadJson = codes "BadJson"
settings_fault_name BadVersion = codes "BadVersion"
settings_fault_name BadShape = codes "BadShape"
settings_fault_name BadLayout = codes "BadLayout"
settings_fault_name BadServers = codes "BadServers"
settings_fault_name BadGroups = codes "BadGroups"
settings_fault_name BadShards = codes "BadShards"
settings_fault_name BadOps = codes "BadOps"
settings_fault_name BadKept = codes "BadKept"
settings_fault_name BadCeiling = codes "BadCeiling"
settings_fault_name BadWorkers = codes "BadWorkers"
settings_fault_name BadDomains = codes "BadDomains"
settings_fault_name TooManyWorkers = codes "TooManyWorkers"
settings_fault_name NoMemory = codes "NoMemory"
