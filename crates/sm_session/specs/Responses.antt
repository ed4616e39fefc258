-- The responses of a session to a line, from the answers that its backend may give to the call in the line.
use Rattle.std.specs.Prelude.{ℕ, ◌≡◌, Option, Some, None, Result, Ok, Err, List, [], ◌∷◌, ◌++◌}
use Rattle.sm_script.specs.Answers.{answer_text}
use Rattle.sm_script.specs.Lines.{call_of_line}
use Rattle.sm_script.specs.declared.call.Call.{Call}
use Rattle.sm_script.specs.declared.fault.LineFault.{LineFault}
use Rattle.sm_script.specs.declared.line_answer.LineAnswer.{LineAnswer}
use Rattle.sm_script.specs.declared.line_answer.LineAnswer.TheVariants.{Error}

-- an answer, and the line feed that ends it
abbrev pub answer_line : LineAnswer → List ℕ
answer_line answer = answer_text answer ++ 10 ∷ []

-- the response to a line that was read with this result: nothing, its fault, or an answer that its call may have
abbrev pub RespondsTo : {B : Type 0} → (B → Call → LineAnswer → B → Type 0)
    → B → Result (Option Call) LineFault → List ℕ → B → Type 0
RespondsTo answers before (Err found) text after = (text ≡ answer_line (Error found)) × (after ≡ before)
RespondsTo answers before (Ok None) text after = (text ≡ []) × (after ≡ before)
RespondsTo answers before (Ok (Some asked)) text after =
    (answer : LineAnswer) × (text ≡ answer_line answer) × answers before asked answer after

-- the response to a line
abbrev pub Responds : {B : Type 0} → (B → Call → LineAnswer → B → Type 0)
    → B → List ℕ → List ℕ → B → Type 0
Responds answers before line text after = RespondsTo answers before (call_of_line line) text after
