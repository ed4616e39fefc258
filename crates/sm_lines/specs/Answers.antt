-- The bytes that are written in answer to lines.
use Rattle.std.specs.Prelude.{◌≡◌, ◌⊎◌, true, ℕ, ◌≤◌, ◌<◌, List, [], ◌∷◌, ◌++◌, length, take, Result, Err}
use Rattle.std.specs.Prelude.{OnOk}
use Rattle.sm_lines.specs.Reading.{Reading, ReaderStopped, TookLines, TookPart}
use Rattle.sm_lines.specs.Transcripts.{Transcript}
use Rattle.sm_lines.specs.Writing.{Writing, Wrote, WroteShort}
use Rattle.sm_lines.specs.declared.answer_fault.AnswerFault.{AnswerFault}
use Rattle.sm_lines.specs.declared.answer_fault.AnswerFault.TheVariants.{Read, Write, NoMemory}
use Rattle.sm_lines.specs.declared.watch.TheConstants.{COUNT_LIMIT}

-- a responder's answer to one line: `gives` speaks of a line within the limit, and `gives_long` of the first bytes
-- of a longer one, which changes nothing
pub record AnswersLine {E : Type 0} (gives : E → List ℕ → List ℕ → E → Type 0)
    (gives_long : E → List ℕ → List ℕ → Type 0)
    (limit : ℕ) (before : E) (line text : List ℕ) (after : E) : Type 0 where
  pub whole : length line ≤ limit → gives before line text after
  pub long : limit < length line → gives_long before (take limit line) text × (after ≡ before)

-- lines are answered in turn, and the text is their answers one after another
abbrev pub AnswersAll : {E : Type 0} → (E → List ℕ → List ℕ → E → Type 0) → E → List (List ℕ) → List ℕ → E → Type 0
AnswersAll answers before [] text after = (text ≡ []) × (after ≡ before)
AnswersAll {E} answers before (line ∷ lines) text after = (first : List ℕ) × (rest : List ℕ) × (between : E)
    × (text ≡ first ++ rest) × answers before line first between × AnswersAll answers between lines rest after

-- exactly the answers to the lines in `done` were written
abbrev pub RanTo : {E : Type 0} → (E → List ℕ → List ℕ → E → Type 0) → Writing → Writing → E → E → List (List ℕ)
    → Type 0
RanTo answers was now begun after done = (text : List ℕ) × AnswersAll answers begun done text after × Wrote was now text

-- the lines in `done` were taken off, and of the rest only one was touched: a front of it or all of it is gone
pub record StopsAfter (was now : Reading) (done : List (List ℕ)) : Type 0 where
  pub next : Reading
  pub took : TookLines was next done
  pub touched : TookPart next now now.ended ⊎ ((line : List ℕ) × TookLines next now (line ∷ []))

-- reading stopped after the lines in `done`: in the line after them, as the reader did; or because they are as many as
-- may be read
abbrev pub ReadingStopped : ℕ → Reading → Reading → List (List ℕ) → Type 0
ReadingStopped most was now done =
    ((next : Reading) × TookLines was next done × ReaderStopped next now)
    ⊎ (TookLines was now done × (most ≤ length done))

-- how answering the input ended. Without a fault, all lines were answered. If reading stopped, all lines that were read
-- whole were answered; if memory was refused, all lines before the one at which it was; and exactly these answers were
-- written. If writing failed, only the first part of the answers to the lines that were read was written
pub record AnsweredInput {T E : Type 0} (answers : E → List ℕ → List ℕ → E → Type 0) (result : Result T AnswerFault)
    (was now : Transcript) (begun ended : E) : Type 0 where
  pub ran : OnOk result ((done : List (List ℕ)) × RanTo answers was.writing now.writing begun ended done
      × TookLines was.reading now.reading done × (now.reading.ended ≡ true))
  pub read : result ≡ Err Read → (done : List (List ℕ)) × RanTo answers was.writing now.writing begun ended done
      × ReadingStopped COUNT_LIMIT was.reading now.reading done
  pub no_memory : result ≡ Err NoMemory → (done : List (List ℕ)) × (last : E)
      × RanTo answers was.writing now.writing begun last done
      × StopsAfter was.reading now.reading done
  pub write : result ≡ Err Write → (done : List (List ℕ)) × (last : E) × (text : List ℕ)
      × AnswersAll answers begun done text last
      × WroteShort was.writing now.writing text × StopsAfter was.reading now.reading done

-- the first line was taken off and answered
pub record AnsweredLine {E : Type 0} (answers : E → List ℕ → List ℕ → E → Type 0)
    (was now : Reading) (text : List ℕ) (before after : E) : Type 0 where
  pub line : List ℕ
  pub took : TookLines was now (line ∷ [])
  pub answered : answers before line text after
