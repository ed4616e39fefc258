-- The result of a settings line beyond the limit.
use Rattle.std.proofs.Common.{◌≡◌, ◌<◌, ℕ, List, length, if◌then◌else◌, Err, ap}
use Rattle.std.proofs.lemmas.Bool.{lt-leb}
use Rattle.std.specs.Str.{is_utf8}
use Rattle.serde_json.specs.Read.{read}
use Rattle.sm_settings.specs.declared.settings.TheConstants.{MAX_SETTINGS}
use Rattle.sm_settings.specs.declared.settings_fault.SettingsFault.TheVariants.{BadJson, TooLong}
use Rattle.sm_settings.specs.SettingsLine.{settings_of, verdict_of}

-- a line beyond the limit is too long, whatever else it contains
pub settings_of_long : (line : List ℕ) → MAX_SETTINGS < length line → settings_of line ≡ Err TooLong
unfolding settings_of
settings_of_long line long = ap (λ b. if b then (if is_utf8 line then verdict_of (read line) else Err BadJson)
    else Err TooLong) (lt-leb (length line) MAX_SETTINGS long)
