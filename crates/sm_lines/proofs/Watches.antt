-- The state in which a run leaves the reader and the writer that are watched.
use Rattle.std.proofs.Common.{◌≡◌, ◌≢◌, ◌+◌, inl, inr, true, false, ℕ, List, [], ◌∷◌, ◌++◌, Result, Ok}
use Rattle.std.proofs.Common.{Err, refl, ap, ◌∙◌}
use Rattle.std.proofs.lemmas.Bool.{false≢true}
use Rattle.sm_lines.specs.Answers.{AnsweredInput, ReadingStopped, StopsAfter}
use Rattle.sm_lines.specs.Reading.{Reading, Reads, ReaderStopped, TookLines}
use Rattle.sm_lines.specs.Transcripts.{Transcript}
use Rattle.sm_lines.specs.Writing.{Writing}
use Rattle.sm_lines.specs.declared.watch.TheConstants.{COUNT_LIMIT}
use Rattle.sm_lines.specs.lemmas.Taking.{reads_last, reads_more}
use Rattle.sm_lines.specs.declared.answer_fault.AnswerFault.{AnswerFault}
use Rattle.sm_lines.specs.declared.answer_fault.AnswerFault.TheVariants as answer
use Rattle.sm_lines.specs.Faults.{status_of}
use Rattle.sm_lines.specs.Watching.{KeepsWatch}
use Rattle.sm_lines.specs.declared.run_fault.RunFault.{RunFault}
use Rattle.sm_lines.specs.declared.run_fault.RunFault.TheVariants.{Read, Write, NoMemory, NoThread}
use Rattle.sm_lines.specs.declared.status.Status.{Status}
use Rattle.sm_lines.proofs.Stops.{Touched}

-- some bytes were read
abbrev pub HasRead : Reading → Reading → Type 0
HasRead was now = (taken : List ℕ) × Reads was now taken true

of_lines : (was now : Reading) (lines : List (List ℕ)) → TookLines was now lines → HasRead was now
of_lines was now lines took = (took.taken, reads_last was now took.taken now.ended took.reads)

pub of_touched : (was now : Reading) → Touched was now → HasRead was now
of_touched was now (inl part) = (part.0, reads_last was now part.0 now.ended part.2)
of_touched was now (inr line) = of_lines was now (line.0 ∷ []) line.1

then_read : (was now next : Reading) (lines : List (List ℕ)) → TookLines was now lines → HasRead now next
    → HasRead was next
then_read was now next lines took
    read = (took.taken ++ read.0, reads_more was now next took.taken read.0 true took.reads read.1)

of_stop : (was now : Reading) (done : List (List ℕ)) → StopsAfter was now done → HasRead was now
of_stop was now done stops = then_read was stops.next now done stops.took (of_touched stops.next now stops.touched)

of_reading : (most : ℕ) (was now : Reading) (done : List (List ℕ)) → ReadingStopped most was now done → HasRead was now
of_reading most was now done (inl stopped) = then_read was stopped.0 now done stopped.1
    (stopped.2.part.0, stopped.2.part.2)
of_reading most was now done (inr counted) = of_lines was now done counted.0

-- if a session answered the lines
pub watched_session : {S T : Type 0} (answers : S → List ℕ → List ℕ → S → Type 0) (answered : Result T AnswerFault)
    (was : Transcript) (mid : Reading) (now : Transcript) (begun ended : S) (first : List ℕ)
    → TookLines was.reading mid (first ∷ []) → mid.failed ≡ was.reading.failed
    → AnsweredInput answers answered (record { reading = mid; writing = was.writing }) now begun ended
    → (answered ≢ Err answer.Read → now.reading.failed ≡ mid.failed)
    → (answered ≢ Err answer.Write → now.writing.failed ≡ was.writing.failed)
    → KeepsWatch (status_of answered) was now
watched_session answers (Ok all) was mid now begun ended first took unfailed a read_unfailed write_unfailed = record {
  read_all = λ _. (a.ran.2.reads.after.end a.ran.3).1;
  reader_unfailed = λ _. read_unfailed (λ e. cc) ∙ unfailed;
  writer_unfailed = λ _. write_unfailed (λ e. cc);
  reads = then_read was.reading mid now.reading (first ∷ []) took (of_lines mid now.reading a.ran.0 a.ran.2);
  none_waits = λ _. a.ran.1.2.1;
}
watched_session answers (Err answer.Read) was mid now begun ended first took unfailed a read_unfailed write_unfailed =
    let stop = a.read refl in
    record {
      read_all = λ e. (let no : false ≡ true = cc in absurd (false≢true no));
      reader_unfailed = λ other. absurd (other refl);
      writer_unfailed = λ _. write_unfailed (λ e. cc);
      reads = then_read was.reading mid now.reading (first ∷ []) took
          (of_reading COUNT_LIMIT mid now.reading stop.0 stop.2);
      none_waits = λ _. stop.1.2.1;
    }
watched_session answers (Err answer.NoMemory) was mid now begun ended first took unfailed a read_unfailed
    write_unfailed =
    let stop = a.no_memory refl in
    record {
      read_all = λ e. (let no : false ≡ true = cc in absurd (false≢true no));
      reader_unfailed = λ _. read_unfailed (λ e. cc) ∙ unfailed;
      writer_unfailed = λ _. write_unfailed (λ e. cc);
      reads = then_read was.reading mid now.reading (first ∷ []) took (of_stop mid now.reading stop.0 stop.3);
      none_waits = λ _. stop.2.2.1;
    }
watched_session answers (Err answer.Write) was mid now begun ended first took unfailed a read_unfailed write_unfailed =
    let stop = a.write refl in
    record {
      read_all = λ e. (let no : false ≡ true = cc in absurd (false≢true no));
      reader_unfailed = λ _. read_unfailed (λ e. cc) ∙ unfailed;
      writer_unfailed = λ other. absurd (other refl);
      reads = then_read was.reading mid now.reading (first ∷ []) took (of_stop mid now.reading stop.0 stop.5);
      none_waits = λ _. stop.4.none_waits;
    }

-- the run ended by this fault
abbrev pub ended_by : RunFault → Result Status RunFault
ended_by fault = Err fault

abbrev pub IsFault : RunFault → RunFault → Type 0
IsFault fault other = ended_by fault ≡ Err other

-- if no settings were read
pub watched_unread : (fault : RunFault) (was now : Transcript) → fault ≢ Write
    → (IsFault fault Read → ReaderStopped was.reading now.reading)
    → (IsFault fault NoMemory → Touched was.reading now.reading)
    → fault ≢ NoThread → ((IsFault fault Read → ⊥) → now.reading.failed ≡ was.reading.failed)
    → now.writing ≡ was.writing → KeepsWatch (Err fault) was now
watched_unread fault was now not_write stopped touched some_thread unfailed unwritten = record {
  read_all = λ e. (let no : false ≡ true = cc in absurd (false≢true no));
  reader_unfailed = unfailed;
  writer_unfailed = λ _. ap (λ (w : Writing). w.failed) unwritten;
  reads = by_fault fault not_write stopped touched some_thread;
  none_waits = λ none. ap (λ (w : Writing). w.waiting) unwritten ∙ none;
}
  where
    by_fault : (fault : RunFault) → fault ≢ Write → (IsFault fault Read → ReaderStopped was.reading now.reading)
        → (IsFault fault NoMemory → Touched was.reading now.reading)
        → fault ≢ NoThread → HasRead was.reading now.reading
    by_fault Read not_write stopped touched some_thread = let part = (stopped refl).part in (part.0, part.2)
    by_fault Write not_write stopped touched some_thread = absurd (not_write refl)
    by_fault NoMemory not_write stopped touched some_thread = of_touched was.reading now.reading (touched refl)
    by_fault NoThread not_write stopped touched some_thread = absurd (some_thread refl)
