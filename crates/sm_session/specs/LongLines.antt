-- The response of a session to a line beyond the limit.
use Rattle.std.specs.Prelude.{ℕ, ◌≡◌, ◌<◌, Option, Some, None, Result, Ok, Err, List, [], ◌++◌, length}
use Rattle.sm_session.specs.Responses.{answer_line}
use Rattle.sm_script.specs.Lines.{call_of_line}
use Rattle.sm_script.specs.declared.line_answer.LineAnswer.TheVariants.{Error}
use Rattle.sm_script.specs.declared.call.Call.{Call}
use Rattle.sm_script.specs.declared.fault.LineFault.{LineFault}
use Rattle.sm_script.specs.declared.line.TheConstants.{MAX_LINE}

-- the response to a line that makes no call: nothing, or its fault
abbrev pub IsLongResponse : Result (Option Call) LineFault → List ℕ → Type 0
IsLongResponse (Err fault) text = text ≡ answer_line (Error fault)
IsLongResponse (Ok None) text = text ≡ []
IsLongResponse (Ok (Some asked)) text = ⊥

-- each line that begins in this way and is too long to be read has this response
abbrev pub RespondsLong : List ℕ → List ℕ → Type 0
RespondsLong start text =
    (rest : List ℕ) → 0 < length start → MAX_LINE < length (start ++ rest)
    → IsLongResponse (call_of_line (start ++ rest)) text
