-- A session responds to a line beyond the limit as to any other line.
use Rattle.std.proofs.Common.{◌≡◌, ◌≤◌, ◌<◌, ℕ, List, length, take, drop, sym, subst, arith, lit<, inl, inr}
use Rattle.std.proofs.Common.{Option, Some, None, Result, Ok, Err}
use Rattle.std.proofs.lemmas.Bool.{cases_lt}
use Rattle.std.proofs.lemmas.List.{length-take-le, take-append-drop}
use Rattle.sm_lines.specs.Answers.{AnswersLine}
use Rattle.sm_script.specs.declared.call.Call.{Call}
use Rattle.sm_script.specs.declared.fault.LineFault.{LineFault}
use Rattle.sm_script.specs.declared.line.TheConstants.{MAX_LINE}
use Rattle.sm_script.specs.declared.line_answer.LineAnswer.{LineAnswer}
use Rattle.sm_script.specs.Lines.{call_of_line}
use Rattle.sm_session.specs.LongLines.{IsLongResponse, RespondsLong}
use Rattle.sm_session.specs.Responses.{Responds, RespondsTo}

no_call : {B : Type 0} (answers : B → Call → LineAnswer → B → Type 0) (before after : B)
    (read : Result (Option Call) LineFault) (text : List ℕ) → IsLongResponse read text → after ≡ before
    → RespondsTo answers before read text after
no_call answers before after (Err fault) text is same = (is, same)
no_call answers before after (Ok None) text is same = (is, same)
no_call answers before after (Ok (Some call)) text is same = absurd is

some_front : (line : List ℕ) → MAX_LINE < length line → 0 < length (take MAX_LINE line)
some_front line long =
    let short : MAX_LINE ≤ length line = omega arith in
    let is = length-take-le MAX_LINE line short in
    subst (λ n. 0 < n) (sym is) (lit< tt)

long_response : (line text : List ℕ) → MAX_LINE < length line → RespondsLong (take MAX_LINE line) text
    → IsLongResponse (call_of_line line) text
long_response line text long responds =
    subst (λ (l : List ℕ). MAX_LINE < length l → IsLongResponse (call_of_line l) text) (take-append-drop MAX_LINE line)
    (responds (drop MAX_LINE line) (some_front line long)) long

-- a line of any length has the response of a line
pub responds_any : {B : Type 0} (answers : B → Call → LineAnswer → B → Type 0) (before : B) (line text : List ℕ)
    (after : B)
    → AnswersLine (Responds answers) (λ session start text. RespondsLong start text) MAX_LINE before line text after
    → Responds answers before line text after
responds_any answers before line text after gives =
    elim (cases_lt MAX_LINE (length line)) [
      | inl long ↦ let answered = gives.long long in
          no_call answers before after (call_of_line line) text (long_response line text long answered.0) answered.1
      | inr short ↦ gives.whole short
    ]
