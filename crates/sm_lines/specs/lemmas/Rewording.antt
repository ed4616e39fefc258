-- The bytes that must be written, said in another way.
use Rattle.std.proofs.Common.{ℕ, List, Result, ◌++◌, ◌∷◌, [], inl, inr}
use Rattle.sm_lines.specs.Reading.{Reading}
use Rattle.sm_lines.specs.Transcripts.{Transcript}
use Rattle.sm_lines.specs.Answers.{AnswersAll}
use Rattle.sm_lines.specs.Runs.{RanScript, StoppedAt, StoppedEarly, StoppedWriting, WritesFor}
use Rattle.sm_lines.specs.declared.begin_fault.BeginFault.{BeginFault}
use Rattle.sm_lines.specs.declared.run_fault.RunFault.{RunFault}
use Rattle.sm_lines.specs.declared.status.Status.{Status}

-- from one way to say which bytes must be written to another
abbrev pub Rewords : (List (List ℕ) → List ℕ → Type 0) → (List (List ℕ) → List ℕ → Type 0) → Type 0
Rewords writes says = (before : List (List ℕ)) (text : List ℕ) → writes before text → says before text

writing_as : (writes says : List (List ℕ) → List ℕ → Type 0) (was now : Transcript) → Rewords writes says
    → StoppedWriting writes was now → StoppedWriting says was now
writing_as writes says was now reword s = record {
  before = s.before;
  line = s.line;
  rest = s.rest;
  stops = s.stops;
  text = s.text;
  answer = s.answer;
  whole = reword s.before s.text s.whole;
  next = reword (s.before ++ s.line ∷ []) (s.text ++ s.answer) s.next;
  short = s.short;
  count = s.count;
  wrote = s.wrote;
}

stopped_as : (stops : Reading → Reading → List (List ℕ) → Type 0) (writes says : List (List ℕ) → List ℕ → Type 0)
    (was now : Transcript) → Rewords writes says → StoppedAt stops writes was now → StoppedAt stops says was now
stopped_as stops writes says was now reword s = record
    { before = s.before; why = s.why; text = s.text; whole = reword s.before s.text s.whole; wrote = s.wrote }

pub early_as : (refuses : List ℕ → BeginFault → Type 0) (writes says : List (List ℕ) → List ℕ → Type 0)
    (result : Result Status RunFault) (was now : Transcript)
    → Rewords writes says → StoppedEarly refuses writes result was now → StoppedEarly refuses says result was now
early_as refuses writes says result was now reword s = record {
  read = λ is. stopped_as _ writes says was now reword (s.read is);
  no_memory = λ is. stopped_as _ writes says was now reword (s.no_memory is);
  no_thread = s.no_thread;
  write = λ is. elim (s.write is) [
    | inl session ↦ inl (writing_as writes says was now reword session)
    | inr refused ↦ inr refused
  ];
}

pub ran_as : (writes says : List (List ℕ) → List ℕ → Type 0) (was now : Transcript) → Rewords writes says
    → RanScript writes was now → RanScript says was now
ran_as writes says was now reword ran = record {
  first = ran.first;
  lines = ran.lines;
  text = ran.text;
  took = ran.took;
  all = ran.all;
  whole = reword (ran.first ∷ ran.lines) ran.text ran.whole;
  wrote = ran.wrote;
}

all_as : {S : Type 0} (answers also : S → List ℕ → List ℕ → S → Type 0)
    → ((before : S) (line text : List ℕ) (after : S) → answers before line text after → also before line text after)
    → (lines : List (List ℕ)) (before : S) (text : List ℕ) (after : S) → AnswersAll answers before lines text after
    → AnswersAll also before lines text after
all_as answers also reads [] before text after all = all
all_as answers also reads (line ∷ lines) before text after (first, rest, between, is, gives, all) = (
  first,
  rest,
  between,
  is,
  reads before line first between gives,
  all_as answers also reads lines between rest after all,
)

-- a session's answers, said in another way
pub answers_as : {S : Type 0} (begins : List ℕ → S → Type 0) (answers also : S → List ℕ → List ℕ → S → Type 0)
    → ((before : S) (line text : List ℕ) (after : S) → answers before line text after → also before line text after)
    → Rewords (WritesFor begins answers) (WritesFor begins also)
answers_as begins answers also reads [] text none = none
answers_as begins answers also reads (first ∷ lines) text (begun, ended, began, all) =
    (begun, ended, began, all_as answers also reads lines begun text ended all)
