-- The bytes that a run has read and written.
use Rattle.std.specs.Prelude.{◌≡◌, ◌⊎◌, true, ℕ, ◌+◌, List, [], ◌∷◌, ◌++◌, take, Result, Err}
use Rattle.std.specs.Io.KnownBytes.{Appends}
use Rattle.sm_lines.specs.Answers.{AnswersAll, ReadingStopped, StopsAfter}
use Rattle.sm_lines.specs.Reading.{Reading, TookLines}
use Rattle.sm_lines.specs.Transcripts.{Transcript}
use Rattle.sm_lines.specs.Writing.{Sends, Wrote, WroteShort}
use Rattle.sm_lines.specs.declared.watch.TheConstants.{COUNT_LIMIT}
use Rattle.sm_lines.specs.declared.begin_fault.BeginFault.{BeginFault}
use Rattle.sm_lines.specs.declared.begin_fault.BeginFault.TheVariants as begin
use Rattle.sm_lines.specs.declared.run_fault.RunFault.{RunFault}
use Rattle.sm_lines.specs.declared.run_fault.RunFault.TheVariants.{Read, Write, NoMemory, NoThread}
use Rattle.sm_lines.specs.declared.status.Status.{Status}
use Rattle.sm_lines.specs.Openings.{RefusedScript}

-- the bytes that must be written for these lines: nothing if there are none, and otherwise the answers of a session
-- that the first line begins
abbrev pub WritesFor : {S : Type 0} → (List ℕ → S → Type 0) → (S → List ℕ → List ℕ → S → Type 0)
    → List (List ℕ) → List ℕ → Type 0
WritesFor begins answers [] text = text ≡ []
WritesFor {S} begins answers (first ∷ lines) text =
    (begun : S) × (ended : S) × begins first begun × AnswersAll answers begun lines text ended

-- all lines were read, and the text of `writes` for them was written
pub record RanScript (writes : List (List ℕ) → List ℕ → Type 0) (was now : Transcript) : Type 0 where
  pub first : List ℕ
  pub lines : List (List ℕ)
  pub text : List ℕ
  pub took : TookLines was.reading now.reading (first ∷ lines)
  pub all : now.reading.ended ≡ true
  pub whole : writes (first ∷ lines) text
  pub wrote : Wrote was.writing now.writing text

-- a run stopped after the lines in `before`, because of `stops`, and their answers were written
pub record StoppedAt (stops : Reading → Reading → List (List ℕ) → Type 0) (writes : List (List ℕ) → List ℕ → Type 0)
    (was now : Transcript) : Type 0 where
  pub before : List (List ℕ)
  pub why : stops was.reading now.reading before
  pub text : List ℕ
  pub whole : writes before text
  pub wrote : Sends was.writing now.writing text

-- writing stopped at a line: only the first part of the waiting bytes, of the answers to the lines before it, and of
-- its own answer was written. If nothing had waited, the answers to the lines before it were written whole
pub record StoppedWriting (writes : List (List ℕ) → List ℕ → Type 0) (was now : Transcript) : Type 0 where
  pub before : List (List ℕ)
  pub line : List ℕ
  pub rest : List (List ℕ)
  pub stops : StopsAfter was.reading now.reading (before ++ line ∷ rest)
  pub text : List ℕ
  pub answer : List ℕ
  pub whole : writes before text
  pub next : writes (before ++ line ∷ []) (text ++ answer)
  pub short : WroteShort was.writing now.writing (text ++ answer)
  pub count : ℕ
  pub wrote : was.writing.waiting ≡ [] → Appends was.writing.written now.writing.written (text ++ take count answer)

-- the first line was taken off, for want of a thread no session was begun with it, and nothing was written
abbrev pub Unbegun : (List ℕ → BeginFault → Type 0) → Transcript → Transcript → Type 0
Unbegun refuses was now = (first : List ℕ) × TookLines was.reading now.reading (first ∷ [])
    × refuses first begin.NoThread × (now.writing ≡ was.writing)

-- how a run stopped early; `writes` is the text that must be written for the lines before the one at which it stopped,
-- and `refuses` says which first line begins no session
pub record StoppedEarly (refuses : List ℕ → BeginFault → Type 0) (writes : List (List ℕ) → List ℕ → Type 0)
    (result : Result Status RunFault) (was now : Transcript) : Type 0 where
  pub read : result ≡ Err Read → StoppedAt (ReadingStopped (1 + COUNT_LIMIT)) writes was now
  pub no_memory : result ≡ Err NoMemory → StoppedAt StopsAfter writes was now
  pub no_thread : result ≡ Err NoThread → Unbegun refuses was now
  pub write : result ≡ Err Write → StoppedWriting writes was now ⊎ RefusedScript refuses WroteShort was now
