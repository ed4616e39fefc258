-- The bytes that the program writes for the bytes that it reads.
use Rattle.std.specs.Prelude.{ℕ, Option, Some, None, Result, Ok, Err, List, [], ◌∷◌, ◌++◌, drop, unwrap_or}
use Rattle.std.specs.Option.{option_map}
use Rattle.sm_lines.specs.Lines.{lines_of}
use Rattle.sm_script.specs.Lines.{call_of_line}
use Rattle.sm_script.specs.declared.line_answer.LineAnswer.TheVariants.{Error}
use Rattle.sm_script.specs.declared.call.Call.{Call}
use Rattle.sm_script.specs.declared.fault.LineFault.{LineFault}
use Rattle.sm_service.specs.declared.request.Request.{Request}
use Rattle.sm_lines.specs.Openings.{settings_in, settings_line}
use Rattle.sm_session.specs.Responses.{answer_line}
use Rattle.sm_settings.specs.SettingsLine.{SettingsValues, settings_of}
use Rattle.sm_settings.specs.declared.settings_fault.SettingsFault.{SettingsFault}
use Rattle.sm_table.specs.World.{WorldState, empty_world}
use Rattle.sm_model.specs.Calls.{answered, called, settings_frame}

-- the bytes for a line that was read in this way, and the world that it leaves. Each call has an answer, because of the
-- law `every_call_answered`
abbrev pub responded : WorldState Request → Result (Option Call) LineFault → List ℕ × WorldState Request
responded w (Err fault) = (answer_line (Error fault), w)
responded w (Ok None) = ([], w)
responded w (Ok (Some call)) = (unwrap_or (option_map answer_line (answered w call)) [], (called w call).1)

-- the bytes for a line of a script, and the world that it leaves
abbrev pub line_response : WorldState Request → List ℕ → List ℕ × WorldState Request
line_response w line = responded w (call_of_line line)

-- the bytes for all lines, one after another
abbrev pub responses : WorldState Request → List (List ℕ) → List ℕ
responses w [] = []
responses w (line ∷ lines) = let first = line_response w line in first.0 ++ responses first.1 lines

-- the bytes for a script whose settings were read in this way: the fault of the settings, or the answers to the other
-- lines at the world that the settings ask for
abbrev pub script_with : Result SettingsValues SettingsFault → List (List ℕ) → List ℕ
script_with (Err fault) lines = settings_line fault
script_with (Ok settings) lines = responses (empty_world (settings_frame settings)) lines

-- the bytes that the program writes for the bytes that it reads
abbrev pub script : List ℕ → List ℕ
script bytes = script_with (settings_in (lines_of bytes)) (drop 1 (lines_of bytes))

-- the script of the lines before one: nothing before the first line
abbrev pub script_before : List (List ℕ) → List ℕ
script_before [] = []
script_before (first ∷ lines) = script_with (settings_of first) lines
