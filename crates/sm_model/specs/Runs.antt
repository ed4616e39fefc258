-- The bytes that a run of the model has read and written.
use Rattle.std.specs.Prelude.{◌≡◌, ℕ, List, IsOk, IsErr}
use Rattle.sm_lines.specs.Lines.{lines_of}
use Rattle.sm_lines.specs.Reading.{to_come}
use Rattle.sm_lines.specs.Transcripts.{Transcript}
use Rattle.sm_lines.specs.Writing.{Wrote}
use Rattle.sm_model.specs.Script.{script, script_before}
use Rattle.sm_lines.specs.Openings.{IfKnown, settings_in}

-- the bytes that were written are the script of the input
abbrev pub WroteScript : Transcript → Transcript → Type 0
WroteScript was now = IfKnown (to_come was.reading) (λ bytes. Wrote was.writing now.writing (script bytes))

-- the input, if it is known, begins with settings that are accepted
abbrev pub AcceptsSettings : Transcript → Type 0
AcceptsSettings was = IfKnown (to_come was.reading) (λ bytes. IsOk (settings_in (lines_of bytes)))

-- the input, if it is known, begins with settings that are refused
abbrev pub RefusesSettings : Transcript → Type 0
RefusesSettings was = IfKnown (to_come was.reading) (λ bytes. IsErr (settings_in (lines_of bytes)))

-- the bytes that a run must have written before it comes to the line after these: the script of these lines
abbrev pub WritesScript : List (List ℕ) → List ℕ → Type 0
WritesScript before text = text ≡ script_before before
