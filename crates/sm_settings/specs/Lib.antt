pub mod Members
pub mod SettingsFault
pub mod SettingsLine
pub mod SettingsRows
pub mod SettingsRules
pub mod lemmas
