-- The result of a line, from the data that was read of it.
use Rattle.std.proofs.Common.{◌≡◌, ◌≢◌, ◌≤◌, nat_le, arith, ℕ, List, [], length, refl, ap, ◌∙◌, Some, None, Err, true}
use Rattle.std.proofs.Common.{false, if◌then◌else◌}
use Rattle.std.specs.Str.{IsUtf8, is_utf8}
use Rattle.std.proofs.lemmas.Bool.{le-leb}
use Rattle.std.proofs.lemmas.Str.{IsUtf8-from_is_utf8, is_utf8-from_IsUtf8}
use Rattle.serde_json.specs.Data.{Data}
use Rattle.serde_json.specs.Read.{read}
use Rattle.serde_json.proofs.OnLiterals.{serde_json_on_literals}
use Rattle.sm_settings.specs.declared.settings_fault.SettingsFault.TheVariants.{TooLong, BadJson, NoMemory}
use Rattle.sm_settings.specs.declared.settings.TheConstants.{MAX_SETTINGS}
use Rattle.sm_settings.proofs.Rules.{verdict_decides}
use Rattle.sm_settings.specs.SettingsLine.{verdict_of, settings_of}

settings_of_short : (line : List ℕ) → length line ≤ MAX_SETTINGS
    → settings_of line ≡ (if is_utf8 line then verdict_of (read line) else Err BadJson)
unfolding settings_of
settings_of_short line short = ap
    (λ b. if b then (if is_utf8 line then verdict_of (read line) else Err BadJson) else Err TooLong) (le-leb _ _ short)

-- the result of a line that is read is that of its value
pub settings_of_read : (line : List ℕ) (d : Data) → length line ≤ MAX_SETTINGS → IsUtf8 line → read line ≡ Some d
    → settings_of line ≡ verdict_of (Some d)
settings_of_read line d short text is =
    settings_of_short line short
    ∙ ap (λ b. if b then verdict_of (read line) else Err BadJson) (is_utf8-from_IsUtf8 line text)
    ∙ ap verdict_of is

-- a line that can't be read is refused
pub settings_of_unread : (line : List ℕ) → length line ≤ MAX_SETTINGS → (IsUtf8 line → read line ≡ None)
    → settings_of line ≡ Err BadJson
settings_of_unread line short unread =
    settings_of_short line short
    ∙ elim (is_utf8 line)
    as (λ b. is_utf8 line ≡ b → (if b then verdict_of (read line) else Err BadJson) ≡ Err BadJson) [
      | true ↦ λ text. ap verdict_of (unread (IsUtf8-from_is_utf8 line text))
      | false ↦ λ _. refl
    ] refl

-- a line gives settings or a fault of its own, however much memory there is
pub settings_of_decides : (line : List ℕ) → settings_of line ≢ Err NoMemory
unfolding settings_of
settings_of_decides line h =
    elim (nat_le (length line) MAX_SETTINGS) as (λ b.
    (if b then (if is_utf8 line then verdict_of (read line) else Err BadJson) else Err TooLong) ≢ Err NoMemory) [
      | true ↦ elim (is_utf8 line) as (λ b. (if b then verdict_of (read line) else Err BadJson) ≢ Err NoMemory) [
        | true ↦ verdict_decides (read line)
        | false ↦ λ e. cc
      ]
      | false ↦ λ e. cc
    ] h

nothing_read : read [] ≡ None
unfolding serde_json_on_literals
nothing_read = refl

-- an empty line is refused
pub settings_of_nothing : settings_of [] ≡ Err BadJson
settings_of_nothing = settings_of_unread [] (omega arith) (λ _. nothing_read)
