-- The first line of a script.
use Rattle.std.specs.Prelude.{◌≡◌, ◌<◌, ◌⊎◌, true, ℕ, List, [], ◌∷◌, ◌++◌, length, ⊤, Option, None, Some, Result, Ok}
use Rattle.std.specs.Prelude.{Err, codes}
use Rattle.sm_settings.specs.SettingsFault.{settings_fault_name}
use Rattle.sm_settings.specs.SettingsLine.{SettingsValues, settings_of}
use Rattle.sm_settings.specs.declared.settings.TheConstants.{MAX_SETTINGS}
use Rattle.sm_settings.specs.declared.settings_fault.SettingsFault.{SettingsFault}
use Rattle.sm_settings.specs.declared.settings_fault.SettingsFault.TheVariants.{BadJson, TooLong}
use Rattle.sm_lines.specs.Reading.{Reading, TookLines}
use Rattle.sm_lines.specs.Transcripts.{Transcript}
use Rattle.sm_lines.specs.Writing.{Writing}
use Rattle.sm_lines.specs.declared.begin_fault.BeginFault.{BeginFault}
use Rattle.sm_lines.specs.declared.begin_fault.BeginFault.TheVariants.{Settings as IsOfSettings, NoMemory}
use Rattle.sm_lines.specs.declared.opening.Opening.{Opening}
use Rattle.sm_lines.specs.declared.opening.Opening.TheVariants.{Kept, Refused}

-- ---- as any engine reads it

-- the answer if no session was begun
abbrev pub settings_line : SettingsFault → List ℕ
settings_line fault = codes "settings " ++ settings_fault_name fault ++ 10 ∷ []

-- the first line was taken off and refused: there is none, or it is too long, or the engine refuses it, by `refuses`
abbrev pub IsRefused : (List ℕ → BeginFault → Type 0) → SettingsFault → Reading → Reading → Type 0
IsRefused refuses fault was now =
    (TookLines was now [] × (now.ended ≡ true) × (fault ≡ BadJson))
    ⊎ ((first : List ℕ) × TookLines was now (first ∷ [])
    × (((MAX_SETTINGS < length first) × (fault ≡ TooLong)) ⊎ refuses first (IsOfSettings fault)))

-- the first line was refused, and its fault written as `wrote` says
pub record RefusedScript (refuses : List ℕ → BeginFault → Type 0) (wrote : Writing → Writing → List ℕ → Type 0)
    (was now : Transcript) : Type 0 where
  pub fault : SettingsFault
  pub refused : IsRefused refuses fault was.reading now.reading
  pub written : wrote was.writing now.writing (settings_line fault)

-- the first line was kept, or refused by no engine
abbrev pub IsOpening : Reading → Reading → Opening → Type 0
IsOpening was now Kept = TookLines was now (now.line ∷ [])
IsOpening was now (Refused fault) = IsRefused (λ _ _. ⊥) fault was now

-- ---- as settings

-- a fact about the bytes, if they are known
abbrev pub IfKnown : Option (List ℕ) → (List ℕ → Type 0) → Type 0
IfKnown None fact = ⊤
IfKnown (Some bytes) fact = fact bytes

-- the settings in front of a script, by its first line; if there is no line, there is no JSON
abbrev pub settings_in : List (List ℕ) → Result SettingsValues SettingsFault
settings_in [] = Err BadJson
settings_in (first ∷ lines) = settings_of first

-- a session that the line's settings begin, by `begins`
abbrev pub BeginsLine : {S : Type 0} → (SettingsValues → S → Type 0) → List ℕ → S → Type 0
BeginsLine begins line session =
    (settings : SettingsValues) × (settings_of line ≡ Ok settings) × begins settings session

-- no reason
abbrev pub HasNone : SettingsValues → BeginFault → Type 0
HasNone settings fault = ⊥

-- why a line that was read so begins no session: want of memory, its fault, or why its settings don't
abbrev pub RefusesRead : (SettingsValues → BeginFault → Type 0) → Result SettingsValues SettingsFault → BeginFault
    → Type 0
RefusesRead refuses read NoMemory = ⊤
RefusesRead refuses (Err found) fault = fault ≡ IsOfSettings found
RefusesRead refuses (Ok settings) fault = refuses settings fault

-- why a line begins no session
abbrev pub RefusesLine : (SettingsValues → BeginFault → Type 0) → List ℕ → BeginFault → Type 0
RefusesLine refuses line fault = RefusesRead refuses (settings_of line) fault
