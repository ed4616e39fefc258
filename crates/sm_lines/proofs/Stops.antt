-- How far a run came before it stopped, and the bytes that it had written by then.
use Rattle.std.proofs.Common.{◌≡◌, ◌≢◌, ◌<◌, ◌+◌, ◌-◌, ◌++◌, ◌∷◌, [], true, false, ℕ, List}
use Rattle.std.proofs.Common.{length, take, ap, sym, ◌∙◌, subst, refl, arith, ◌⊎◌, inl, inr, append_assoc, append-nil}
use Rattle.std.proofs.Common.{Result, Ok, Err}
use Rattle.std.proofs.lemmas.Bool.{cases_lt, false≢true}
use Rattle.std.proofs.lemmas.List.{take-append-le}
use Rattle.std.proofs.lemmas.List.Elements.{All-nil}
use Rattle.std.proofs.Math.Seq.{take-append-add}
use Rattle.std.specs.Io.KnownBytes.{Appends}
use Rattle.sm_settings.specs.declared.settings_fault.SettingsFault.{SettingsFault}
use Rattle.sm_lines.specs.Answers.{AnsweredInput, AnswersAll, ReadingStopped, StopsAfter}
use Rattle.sm_lines.specs.Reading.{Reading, Reads, ReaderStopped, TookLines, TookPart, IsOrderly}
use Rattle.sm_lines.specs.Transcripts.{Transcript}
use Rattle.sm_lines.specs.Writing.{Writing, Sends, WroteShort}
use Rattle.sm_lines.specs.declared.watch.TheConstants.{COUNT_LIMIT}
use Rattle.sm_lines.specs.lemmas.Answering.{AnswersAll-more, sends_none}
use Rattle.sm_lines.specs.lemmas.Taking.{no_lines, took_more, took_none}
use Rattle.sm_lines.specs.declared.opening.Opening.{Opening}
use Rattle.sm_lines.specs.declared.opening.Opening.TheVariants.{Kept, Refused}
use Rattle.sm_lines.specs.Faults.{status_of}
use Rattle.sm_lines.specs.Openings.{IsOpening, IsRefused, RefusedScript}
use Rattle.sm_lines.specs.Runs.{RanScript, StoppedAt, StoppedEarly, StoppedWriting, Unbegun, WritesFor}
use Rattle.sm_lines.specs.declared.answer_fault.AnswerFault.{AnswerFault}
use Rattle.sm_lines.specs.declared.answer_fault.AnswerFault.TheVariants as answer
use Rattle.sm_lines.specs.declared.begin_fault.BeginFault.{BeginFault}
use Rattle.sm_lines.specs.declared.run_fault.RunFault.{RunFault}
use Rattle.sm_lines.specs.declared.run_fault.RunFault.TheVariants.{Read, Write, NoMemory, NoThread}
use Rattle.sm_lines.specs.declared.status.Status.{Status}
use Rattle.sm_lines.specs.declared.status.Status.TheVariants.{Ran}

-- ---- no line was read whole before

-- the run took off the first line, or found none
abbrev pub Touched : Reading → Reading → Type 0
Touched was now = TookPart was now now.ended ⊎ ((line : List ℕ) × TookLines was now (line ∷ []))

pub touched_refused : (refuses : List ℕ → BeginFault → Type 0) (fault : SettingsFault) (was now : Reading)
    → IsRefused refuses fault was now → Touched was now
touched_refused refuses fault was now (inl (took, ended, is)) =
    let P : List ℕ → Type 0 = λ t. Reads was now t now.ended in
    inl ([], All-nil (λ b. b ≢ 10), subst P (no_lines took.taken took.are) took.reads)
touched_refused refuses fault was now (inr (first, took, why)) = inr (first, took)

touched_orderly : (was now : Reading) → Touched was now → IsOrderly was
touched_orderly was now (inl part) = part.2.before
touched_orderly was now (inr line) = line.1.reads.before

-- nothing was written, and no more than the first line was touched
pub stopped_first : (writes : List (List ℕ) → List ℕ → Type 0) (was now : Transcript) → writes [] []
    → now.writing ≡ was.writing → Touched was.reading now.reading → StoppedAt StopsAfter writes was now
stopped_first writes was now none same touched =
    let P : Writing → Type 0 = λ w. Sends was.writing w [] in
    record {
      before = [];
      why = record {
        next = was.reading;
        took = took_none was.reading
            (touched_orderly was.reading now.reading touched);
        touched = touched;
      };
      text = [];
      whole = none;
      wrote = subst P (sym same) (sends_none was.writing);
    }

-- the reader stopped in the first line
pub none_read : (writes : List (List ℕ) → List ℕ → Type 0) (was now : Transcript) → writes [] []
    → now.writing ≡ was.writing → ReaderStopped was.reading now.reading
    → StoppedAt (ReadingStopped (1 + COUNT_LIMIT)) writes was now
none_read writes was now none same stopped =
    let P : Writing → Type 0 = λ w. Sends was.writing w [] in
    record {
      before = [];
      why = inl (was.reading, took_none was.reading stopped.part.2.before, stopped);
      text = [];
      whole = none;
      wrote = subst P (sym same) (sends_none was.writing);
    }

-- nothing but the first line's fault was to be written
pub early_refused : (refuses : List ℕ → BeginFault → Type 0) (writes : List (List ℕ) → List ℕ → Type 0)
    (result : Result Status RunFault) (was now : Transcript)
    → result ≢ Err Read → (result ≡ Err NoMemory → StoppedAt StopsAfter writes was now)
    → (result ≡ Err NoThread → Unbegun refuses was now)
    → (result ≡ Err Write → RefusedScript refuses WroteShort was now) → StoppedEarly refuses writes result was now
early_refused refuses writes result was now not_read memory thread short =
    record { read = λ is. absurd (not_read is); no_memory = memory; no_thread = thread; write = λ is. inr (short is) }

-- no line was read
pub early_unread : (refuses : List ℕ → BeginFault → Type 0) (writes : List (List ℕ) → List ℕ → Type 0)
    (result : Result Status RunFault) (was now : Transcript)
    → (result ≡ Err Read → StoppedAt (ReadingStopped (1 + COUNT_LIMIT)) writes was now)
    → (result ≡ Err NoMemory → StoppedAt StopsAfter writes was now) → result ≢ Err NoThread → result ≢ Err Write
    → StoppedEarly refuses writes result was now
early_unread refuses writes result was now reading memory some_thread not_written =
    record {
      read = reading;
      no_memory = memory;
      no_thread = λ is. absurd (some_thread is);
      write = λ is. absurd
          (not_written is);
    }

-- ---- the first line

-- a line that was kept
pub opened : (was now : Reading) (opening : Opening) → opening ≡ Kept → IsOpening was now opening
    → TookLines was now (now.line ∷ [])
opened was now opening is opens = let P : Opening → Type 0 = λ o. IsOpening was now o in subst P is opens

-- a session answered lines, and nothing was written before
pub answered_after : {S T : Type 0} {answers : S → List ℕ → List ℕ → S → Type 0} {answered : Result T AnswerFault}
    {begun ended : S} (was mid now : Transcript)
    → mid.writing ≡ was.writing → AnsweredInput answers answered mid now begun ended
    → AnsweredInput answers answered (record { reading = mid.reading; writing = was.writing }) now begun ended
answered_after {S} {T} {answers} {answered} {begun} {ended} was mid now same a =
    let P : Writing → Type 0 = λ w. AnsweredInput answers answered (record { reading = mid.reading; writing = w }) now
    begun ended in
    subst P same a

-- no engine begins a session with this first line
pub refused_opening : (refuses : List ℕ → BeginFault → Type 0) (was now : Reading) (opening : Opening)
    (fault : SettingsFault) → opening ≡ Refused fault → IsOpening was now opening
    → IsRefused refuses fault was now
refused_opening refuses was now opening fault is opens =
    let P : Opening → Type 0 = λ o. IsOpening was now o in any (subst P is opens)
  where
    any : IsRefused (λ _ _. ⊥) fault was now → IsRefused refuses fault was now
    any (inl none) = inl none
    any (inr (first, took, inl long)) = inr (first, took, inl long)
    any (inr (first, took, inr never)) = absurd never

-- ---- the lines after the settings

stops_more : (was mid now : Reading) (first : List ℕ) (done : List (List ℕ)) → TookLines was mid (first ∷ [])
    → StopsAfter mid now done → StopsAfter was now (first ∷ done)
stops_more was mid now first done one stops = record
    { next = stops.next; took = took_more was mid stops.next (first ∷ []) done one stops.took; touched = stops.touched }

reading_more : (most : ℕ) (was mid now : Reading) (first : List ℕ) (done : List (List ℕ))
    → TookLines was mid (first ∷ []) → ReadingStopped most mid now done
    → ReadingStopped (1 + most) was now (first ∷ done)
reading_more most was mid now first done one (inl stopped) = inl
    (stopped.0, took_more was mid stopped.0 (first ∷ []) done one stopped.1, stopped.2)
reading_more most was mid now first done one (inr counted) = inr
    (took_more was mid now (first ∷ []) done one counted.0, (let many = counted.1 in omega (arith, many)))

-- the whole script ran
pub ran_session : {S T : Type 0} (begins : List ℕ → S → Type 0) (answers : S → List ℕ → List ℕ → S → Type 0)
    (first : List ℕ) (answered : Result T AnswerFault)
    (was : Transcript) (mid : Reading) (now : Transcript) (begun ended : S)
    → TookLines was.reading mid (first ∷ []) → begins first begun → status_of answered ≡ Ok Ran
    → AnsweredInput answers answered (record { reading = mid; writing = was.writing }) now begun ended
    → RanScript (WritesFor begins answers) was now
ran_session begins answers first (Err fault) was mid now begun ended took began is a = absurd
    (let no : false ≡ true = cc in false≢true no)
ran_session begins answers first (Ok all) was mid now begun ended took began is a = record {
  first = first;
  lines = a.ran.0;
  text = a.ran.1.0;
  took = took_more was.reading mid now.reading (first ∷ []) a.ran.0 took a.ran.2;
  all = a.ran.3;
  whole = (begun, ended, began, a.ran.1.1);
  wrote = a.ran.1.2;
}

-- ---- a front of the answers

-- a front of the answers to lines: all answers to the lines before one, and a front of its own
record Cut {S : Type 0} (answers : S → List ℕ → List ℕ → S → Type 0) (before : S) (lines : List (List ℕ))
    (text : List ℕ) (count : ℕ) : Type 0 where
  done : List (List ℕ)
  line : List ℕ
  rest : List (List ℕ)
  are : lines ≡ done ++ line ∷ rest
  sent : List ℕ
  answer : List ℕ
  mid : S
  after : S
  answered : AnswersAll answers before done sent mid
  next : answers mid line answer after
  left : ℕ
  cut : take count text ≡ sent ++ take left answer

-- the cut is at the first line
cut_first : {S : Type 0} (answers : S → List ℕ → List ℕ → S → Type 0) (before between : S) (line : List ℕ)
    (lines : List (List ℕ)) (text first : List ℕ) (count : ℕ)
    → answers before line first between → take count text ≡ take count first
    → Cut answers before (line ∷ lines) text count
cut_first answers before between line lines text first count gives cut =
    record {
      done = [];
      line = line;
      rest = lines;
      are = refl;
      sent = [];
      answer = first;
      mid = before;
      after = between;
      answered = (refl, refl);
      next = gives;
      left = count;
      cut = cut;
    }

-- the cut is after the answer to the first line
cut_later : {S : Type 0} (answers : S → List ℕ → List ℕ → S → Type 0) (before between : S) (line : List ℕ)
    (lines : List (List ℕ)) (text first rest : List ℕ) (count : ℕ)
    → answers before line first between → text ≡ first ++ rest → length first < count
    → ((lines ≡ []) × (rest ≡ [])) ⊎ Cut answers between lines rest (count - length first)
    → Cut answers before (line ∷ lines) text count
cut_later answers before between line lines text first rest count gives is more (inl none) =
    cut_first answers before between line lines text first count gives
    (ap (take count) is ∙ ap (λ (r : List ℕ). take count (first ++ r)) none.1 ∙ ap (take count) (append-nil first))
cut_later answers before between line lines text first rest count gives is more (inr c) =
    let sum : count ≡ length first + (count - length first) = omega (arith, more) in
    record {
      done = line ∷ c.done;
      line = c.line;
      rest = c.rest;
      are = ap (λ (l : List (List ℕ)). line ∷ l) c.are;
      sent = first ++ c.sent;
      answer = c.answer;
      mid = c.mid;
      after = c.after;
      answered = (first, c.sent, between, refl, gives, c.answered);
      next = c.next;
      left = c.left;
      cut = ap (take count) is ∙ ap (λ n. take n (first ++ rest)) sum
          ∙ take-append-add first rest (count - length first)
          ∙ ap (λ (r : List ℕ). first ++ r) c.cut ∙ sym (append_assoc first c.sent (take c.left c.answer));
    }

cut_at : {S : Type 0} (answers : S → List ℕ → List ℕ → S → Type 0) (before after : S) (lines : List (List ℕ))
    (text : List ℕ) (count : ℕ)
    → AnswersAll answers before lines text after → ((lines ≡ []) × (text ≡ [])) ⊎ Cut answers before lines text count
cut_at answers before after [] text count all = inl (refl, all.0)
cut_at answers before after (line ∷ lines) text count (first, rest, between, is, gives, all) = elim
    (cases_lt (length first) count) [
      | inl more ↦ inr (cut_later answers before between line lines text first rest count gives is more
          (cut_at answers between after lines rest (count - length first) all))
      | inr few ↦ inr (cut_first answers before between line lines text first count gives
          (ap (take count) is ∙ take-append-le count first rest few))
    ]

-- the first part of the waiting bytes and the text is the first part of the waiting bytes and the text up to the cut's
-- answer
front_of_cut : (waiting text sent answer : List ℕ) (count left : ℕ)
    → take (count - length waiting) text ≡ sent ++ take left answer
    → (n : ℕ) × (take count (waiting ++ text) ≡ take n (waiting ++ (sent ++ answer)))
front_of_cut waiting text sent answer count left cut = elim (cases_lt (length waiting) count) [
  | inl more ↦ (let sum : count ≡ length waiting + (count - length waiting) = omega (arith, more) in (
    length waiting + (length sent + left),
    ap (λ n. take n (waiting ++ text)) sum
        ∙ take-append-add waiting text (count - length waiting)
        ∙ ap (λ (r : List ℕ). waiting ++ r) (cut ∙ sym (take-append-add sent answer left))
        ∙ sym (take-append-add waiting (sent ++ answer) (length sent + left)),
  ))
  | inr few ↦ (count, take-append-le count waiting text few ∙ sym (take-append-le count waiting (sent ++ answer) few))
]

-- a front of a session's answers was written
write_session : {S : Type 0} (begins : List ℕ → S → Type 0) (answers : S → List ℕ → List ℕ → S → Type 0)
    (first : List ℕ)
    (was : Transcript) (mid : Reading) (now : Transcript) (begun last : S) (done : List (List ℕ)) (text : List ℕ)
    → TookLines was.reading mid (first ∷ []) → begins first begun → AnswersAll answers begun done text last
    → WroteShort was.writing now.writing text → StopsAfter mid now.reading done
    → StoppedWriting (WritesFor begins answers) was now
write_session {S} begins answers first was mid now begun last done text took began all short stops =
    at_cut (cut_at answers begun last done text sent all)
  where
    sent : ℕ
    sent = short.front.count - length was.writing.waiting

    stopped : StopsAfter was.reading now.reading (first ∷ done)
    stopped = stops_more was.reading mid now.reading first done took stops

    front : {cut : List ℕ} → take sent text ≡ cut → was.writing.waiting ≡ []
        → Appends was.writing.written now.writing.written cut
    front is none =
        let P : List ℕ → Type 0 = λ t. Appends was.writing.written now.writing.written t in
        let all_sent : short.front.count ≡ sent = (let empty : length was.writing.waiting ≡ 0 = ap length none in
        omega (arith, empty)) in
        subst P (ap (λ (w : List ℕ). take short.front.count (w ++ text)) none
        ∙ ap (λ n. take n text) all_sent ∙ is) short.front.wrote

    short_of : (whole answer : List ℕ) (left : ℕ) → take sent text ≡ whole ++ take left answer
        → WroteShort was.writing now.writing (whole ++ answer)
    short_of whole answer left cut =
        let P : List ℕ → Type 0 = λ t. Appends was.writing.written now.writing.written t in
        let n = front_of_cut was.writing.waiting text whole answer short.front.count left cut in
        record {
          front = record { count = n.0; wrote = subst P n.1 short.front.wrote };
          none_waits = short.none_waits;
          failed = short.failed;
        }

    at_cut : ((done ≡ []) × (text ≡ [])) ⊎ Cut answers begun done text sent
        → StoppedWriting (WritesFor begins answers) was now
    at_cut (inl none) =
        let P : List (List ℕ) → Type 0 = λ l. StopsAfter was.reading now.reading (first ∷ l) in
        let Q : List ℕ → Type 0 = WroteShort was.writing now.writing in
        record {
          before = [];
          line = first;
          rest = [];
          stops = subst P none.0 stopped;
          text = [];
          answer = [];
          whole = refl;
          next = (begun, begun, began, (refl, refl));
          short = subst Q none.1 short;
          count = sent;
          wrote = front (ap (take sent) none.1);
        }
    at_cut (inr c) =
        let P : List (List ℕ) → Type 0 = λ l. StopsAfter was.reading now.reading (first ∷ l) in
        record {
          before = first ∷ c.done;
          line = c.line;
          rest = c.rest;
          stops = subst P c.are stopped;
          text = c.sent;
          answer = c.answer;
          whole = (begun, c.mid, began, c.answered);
          next = (
            begun,
            c.after,
            began,
            AnswersAll-more answers begun c.mid c.after c.done c.line c.sent c.answer c.answered c.next,
          );
          short = short_of c.sent c.answer c.left c.cut;
          count = c.left;
          wrote = front c.cut;
        }

-- ---- a session

-- how a run stopped whose session's lines were answered so
pub early_session : {S T : Type 0} (refuses : List ℕ → BeginFault → Type 0)
    (begins : List ℕ → S → Type 0) (answers : S → List ℕ → List ℕ → S → Type 0) (first : List ℕ)
    (answered : Result T AnswerFault) (was : Transcript) (mid : Reading) (now : Transcript) (begun ended : S)
    → TookLines was.reading mid (first ∷ []) → begins first begun
    → AnsweredInput answers answered (record { reading = mid; writing = was.writing }) now begun ended
    → StoppedEarly refuses (WritesFor begins answers) (status_of answered) was now
early_session refuses begins answers first (Ok all) was mid now begun ended took began a =
    record { read = λ e. never e; no_memory = λ e. never e; no_thread = λ e. never e; write = λ e. never e }
  where
    never : {A : Type 0} {fault : RunFault} → status_of (Ok all) ≡ Err fault → A
    never is = let no : false ≡ true = cc in absurd (false≢true no)
early_session refuses begins answers first (Err answer.Read) was mid now begun ended took began a =
    let stop = a.read refl in
    let at : StoppedAt (ReadingStopped (1 + COUNT_LIMIT)) (WritesFor begins answers) was now = record {
      before = first ∷ stop.0;
      why = reading_more COUNT_LIMIT was.reading mid now.reading first stop.0 took stop.2;
      text = stop.1.0;
      whole = (begun, ended, began, stop.1.1);
      wrote = stop.1.2.0;
    } in
    record {
      read = λ _. at;
      no_memory = λ e. (let no : false ≡ true = cc in absurd (false≢true no));
      no_thread = λ e. (let no : false ≡ true = cc in absurd (false≢true no));
      write = λ e. (let no : false ≡ true = cc in absurd (false≢true no));
    }
early_session refuses begins answers first (Err answer.NoMemory) was mid now begun ended took began a =
    let stop = a.no_memory refl in
    let at : StoppedAt StopsAfter (WritesFor begins answers) was now = record {
      before = first ∷ stop.0;
      why = stops_more was.reading mid now.reading first stop.0 took stop.3;
      text = stop.2.0;
      whole = (begun, stop.1, began, stop.2.1);
      wrote = stop.2.2.0;
    } in
    record {
      read = λ e. (let no : false ≡ true = cc in absurd (false≢true no));
      no_memory = λ _. at;
      no_thread = λ e. (let no : false ≡ true = cc in absurd (false≢true no));
      write = λ e. (let no : false ≡ true = cc in absurd (false≢true no));
    }
early_session refuses begins answers first (Err answer.Write) was mid now begun ended took began a =
    let stop = a.write refl in
    let at = write_session begins answers first was mid now begun stop.1 stop.0 stop.2 took began stop.3 stop.4 stop.5
    in
    record {
      read = λ e. (let no : false ≡ true = cc in absurd (false≢true no));
      no_memory = λ e. (let no : false ≡ true = cc in absurd (false≢true no));
      no_thread = λ e. (let no : false ≡ true = cc in absurd (false≢true no));
      write = λ _. inl at;
    }
