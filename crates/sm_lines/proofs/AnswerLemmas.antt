-- Lemmas on answers that are collected line by line.
use Rattle.std.proofs.Common.{Result, Ok, Err, Contains, ◌≤◌, ◌+◌, ◌≡◌, ◌≢◌, ◌⊎◌, inl, inr, true, ℕ, List, [], ◌∷◌}
use Rattle.std.proofs.Common.{◌++◌, length, refl, ap, sym, ◌∙◌, append-nil, subst, arith}
use Rattle.std.proofs.lemmas.List.{length_push}
use Rattle.std.proofs.lemmas.List.Elements.{All-nil}
use Rattle.sm_lines.specs.Reading.{Reading, ReaderStopped, TookLines, TookPart, IsOrderly}
use Rattle.sm_lines.specs.Writing.{Writing, Sends, Wrote, WroteShort}
use Rattle.sm_lines.specs.Transcripts.{Transcript}
use Rattle.sm_lines.specs.Answers.{AnswersAll, AnsweredInput, AnsweredLine, RanTo, ReadingStopped, StopsAfter}
use Rattle.sm_lines.specs.declared.answer_fault.AnswerFault.{AnswerFault}
use Rattle.sm_lines.specs.declared.answer_fault.AnswerFault.TheVariants.{Read, Write, NoMemory}
use Rattle.sm_lines.specs.declared.watch.TheConstants.{COUNT_LIMIT}
use Rattle.sm_lines.specs.lemmas.Answering.{AnswersAll-more, sends_none}
use Rattle.sm_lines.specs.lemmas.Taking.{reads_none, took_more, took_none}
use Rattle.sm_lines.proofs.Writing.{sends_more, sends_short}

-- the lines before the one in front were taken off and answered
pub record SoFar {E : Type 0} (answers : E → List ℕ → List ℕ → E → Type 0) (was now : Transcript) (before after : E)
    (count : ℕ) : Type 0 where
  pub done : List (List ℕ)
  pub text : List ℕ
  pub took : TookLines was.reading now.reading done
  pub answered : AnswersAll answers before done text after
  pub sent : Sends was.writing now.writing text
  pub counted : length done ≡ count

-- no line yet
pub so_far_none : {E : Type 0} {answers : E → List ℕ → List ℕ → E → Type 0} (was : Transcript) (before : E)
    → IsOrderly was.reading → SoFar answers was was before before 0
so_far_none was before orderly =
    record {
      done = [];
      text = [];
      took = took_none was.reading orderly;
      answered = (refl, refl);
      sent = sends_none
          was.writing;
      counted = refl;
    }

-- some of the bytes that wait were written
pub so_far_sent : {E : Type 0} {answers : E → List ℕ → List ℕ → E → Type 0} {was now : Transcript} {before after : E}
    {count : ℕ} (next : Transcript)
    → SoFar answers was now before after count → Sends now.writing next.writing [] → next.reading ≡ now.reading
    → SoFar answers was next before after count
so_far_sent {E} {answers} {was} {now} next s sent same =
    let P : List ℕ → Type 0 = λ t. Sends was.writing next.writing t in
    let Q : Reading → Type 0 = λ r. TookLines was.reading r s.done in
    record {
      done = s.done;
      text = s.text;
      took = subst Q (sym same) s.took;
      answered = s.answered;
      sent = subst P (append-nil s.text) (sends_more was.writing now.writing next.writing s.text [] s.sent sent);
      counted = s.counted;
    }

-- the same with one more line
pub so_far_line : {E : Type 0} {answers : E → List ℕ → List ℕ → E → Type 0} {was now : Transcript}
    {before between after : E} {count : ℕ} {text : List ℕ} (read next : Transcript)
    → SoFar answers was now before between count → AnsweredLine answers now.reading read.reading text between after
    → read.writing ≡ now.writing
    → Sends read.writing next.writing text → next.reading ≡ read.reading
    → SoFar answers was next before after (count + 1)
so_far_line {E} {answers} {was} {now} {before} {between} {after} {count} {text} read next s line unwritten sent unread =
    let P : Writing → Type 0 = λ w. Sends w next.writing text in
    let Q : Reading → Type 0 = λ r. TookLines was.reading r (s.done ++ line.line ∷ []) in
    record {
      done = s.done ++ line.line ∷ [];
      text = s.text ++ text;
      took = subst Q (sym unread) (took_more was.reading now.reading read.reading s.done (line.line ∷ []) s.took
          line.took);
      answered = AnswersAll-more answers before between after s.done line.line s.text text s.answered line.answered;
      sent = sends_more was.writing now.writing next.writing s.text text s.sent (subst P unwritten sent);
      counted = length_push s.done line.line ∙ ap (λ n. n + 1) s.counted;
    }

-- ---- how answering ended

-- answering ended with a fault
ended_at : {T E : Type 0} {answers : E → List ℕ → List ℕ → E → Type 0} {result : Result T AnswerFault}
    {was now : Transcript} {begun ended : E}
    → (fault : AnswerFault) → result ≡ Err fault
    → (fault ≡ Read → (done : List (List ℕ)) × RanTo answers was.writing now.writing begun ended done
    × ReadingStopped COUNT_LIMIT was.reading now.reading done)
    → (fault ≡ NoMemory → (done : List (List ℕ)) × (last : E) × RanTo answers was.writing now.writing begun last done
    × StopsAfter was.reading now.reading done)
    → (fault ≡ Write → (done : List (List ℕ)) × (last : E) × (text : List ℕ) × AnswersAll answers begun done text last
    × WroteShort was.writing now.writing text × StopsAfter was.reading now.reading done)
    → AnsweredInput answers result was now begun ended
ended_at {T} {E} {answers} {result} {was} {now} {begun} {ended} fault is read memory write =
    let P : Result T AnswerFault → Type 0 = λ r. AnsweredInput answers r was now begun ended in
    subst P (sym is) (record { ran = tt; read = λ h. read cc; no_memory = λ h. memory cc; write = λ h. write cc })

-- nothing waits: all answers were written
ran_to : {E : Type 0} {answers : E → List ℕ → List ℕ → E → Type 0} {was now : Transcript} {before after : E} {count : ℕ}
    → (s : SoFar answers was now before after count) → now.writing.waiting ≡ []
    → RanTo answers was.writing now.writing before after s.done
ran_to s none = (s.text, s.answered, (s.sent, none))

-- nothing of the next line was taken off
stops_here : (was now : Reading) (done : List (List ℕ)) → TookLines was now done → StopsAfter was now done
stops_here was now done took =
    record { next = now; took = took; touched = inl ([], All-nil (λ b. b ≢ 10), reads_none now took.reads.after) }

-- the first part of the bytes that wait was written
pub ended_short : {T E : Type 0} {answers : E → List ℕ → List ℕ → E → Type 0} {result : Result T AnswerFault}
    {was now : Transcript} {begun after ended : E} {count : ℕ} (next : Transcript)
    → result ≡ Err Write → SoFar answers was now begun after count → WroteShort now.writing next.writing []
    → next.reading ≡ now.reading → AnsweredInput answers result was next begun ended
ended_short {T} {E} {answers} {result} {was} {now} {begun} {after} next is s short unread =
    let P : List ℕ → Type 0 = λ t. WroteShort was.writing next.writing t in
    let Q : Reading → Type 0 = λ r. StopsAfter was.reading r s.done in
    ended_at Write is (λ h. cc) (λ h. cc) (λ _. (
      s.done,
      after,
      s.text,
      s.answered,
      subst P (append-nil s.text) (sends_short was.writing now.writing next.writing s.text [] s.sent short),
      subst Q (sym unread) (stops_here was.reading now.reading s.done s.took),
    ))

-- the first part of the bytes that wait, and of the answer to one more line, was written
pub ended_short_line : {T E : Type 0} {answers : E → List ℕ → List ℕ → E → Type 0} {result : Result T AnswerFault}
    {was now : Transcript} {begun between after ended : E} {count : ℕ} {text : List ℕ}
    (read next : Transcript) → result ≡ Err Write → SoFar answers was now begun between count
    → AnsweredLine answers now.reading read.reading text between after → read.writing ≡ now.writing
    → WroteShort read.writing next.writing text → next.reading ≡ read.reading
    → AnsweredInput answers result was next begun ended
ended_short_line {T} {E} {answers} {result} {was} {now} {begun} {between} {after} {ended} {count} {text} read next is
    s line unwritten short unread =
    let P : Writing → Type 0 = λ w. WroteShort w next.writing text in
    let Q : Reading → Type 0 = λ r. StopsAfter was.reading r (s.done ++ line.line ∷ []) in
    ended_at Write is (λ h. cc) (λ h. cc) (λ _. (
      s.done ++ line.line ∷ [],
      after,
      s.text ++ text,
      AnswersAll-more answers begun between after s.done line.line s.text text s.answered line.answered,
      sends_short was.writing now.writing next.writing s.text text s.sent (subst P unwritten short),
      subst Q (sym unread) (stops_here was.reading read.reading (s.done ++ line.line ∷ [])
          (took_more was.reading now.reading read.reading s.done (line.line ∷ []) s.took line.took)),
    ))

-- all lines were answered
pub ended_well : {E : Type 0} {answers : E → List ℕ → List ℕ → E → Type 0} {was now : Transcript}
    {begun after ended : E} {count : ℕ} (read : Transcript)
    → SoFar answers was now begun after count → now.writing.waiting ≡ [] → read.writing ≡ now.writing
    → TookLines now.reading read.reading [] → read.reading.ended ≡ true → ended ≡ after
    → AnsweredInput answers (Ok (tt {0})) was read begun ended
ended_well {E} {answers} {was} {now} {begun} {after} {ended} read s none unwritten took end same =
    let P : List (List ℕ) → Type 0 = λ l. TookLines was.reading read.reading l in
    let Q : Writing → Type 0 = λ w. RanTo answers was.writing w begun after s.done in
    let R : E → Type 0 = λ e. RanTo answers was.writing read.writing begun e s.done in
    record {
      ran = (
        s.done,
        subst R (sym same) (subst Q (sym unwritten) (ran_to s none)),
        subst P (append-nil s.done) (took_more was.reading now.reading read.reading s.done [] s.took took),
        end,
      );
      read = λ h. cc;
      no_memory = λ h. cc;
      write = λ h. cc;
    }

-- the reader stopped in a line
pub ended_reading : {T E : Type 0} {answers : E → List ℕ → List ℕ → E → Type 0} {result : Result T AnswerFault}
    {was now : Transcript} {begun after ended : E} {count : ℕ} (read : Transcript)
    → result ≡ Err Read → SoFar answers was now begun after count → now.writing.waiting ≡ []
    → read.writing ≡ now.writing → ReaderStopped now.reading read.reading → ended ≡ after
    → AnsweredInput answers result was read begun ended
ended_reading {T} {E} {answers} {result} {was} {now} {begun} {after} {ended} read is s none unwritten stopped same =
    let Q : Writing → Type 0 = λ w. RanTo answers was.writing w begun after s.done in
    let R : E → Type 0 = λ e. RanTo answers was.writing read.writing begun e s.done in
    ended_at Read is (λ _. (
      s.done,
      subst R (sym same) (subst Q (sym unwritten) (ran_to s none)),
      inl (now.reading, s.took, stopped),
    )) (λ h. cc) (λ h. cc)

-- too many lines were answered
pub ended_counted : {T E : Type 0} {answers : E → List ℕ → List ℕ → E → Type 0} {result : Result T AnswerFault}
    {was now : Transcript} {begun after : E} {count : ℕ} (next : Transcript)
    → result ≡ Err Read → SoFar answers was now begun after count → COUNT_LIMIT ≤ count
    → Wrote now.writing next.writing [] → next.reading ≡ now.reading
    → AnsweredInput answers result was next begun after
ended_counted {T} {E} {answers} {result} {was} {now} {begun} {after} {count} next is s many wrote unread =
    let sent = so_far_sent next s wrote.0 unread in
    let counted = sent.counted in
    ended_at Read is (λ _. (sent.done, ran_to sent wrote.1, inr (sent.took, omega (arith, many, counted)))) (λ h. cc)
    (λ h. cc)

-- memory was refused at a line, and the bytes that waited were written
pub ended_memory : {T E : Type 0} {answers : E → List ℕ → List ℕ → E → Type 0} {result : Result T AnswerFault}
    {was now : Transcript} {begun after ended : E} {count : ℕ} (read next : Transcript)
    → result ≡ Err NoMemory → SoFar answers was now begun after count → read.writing ≡ now.writing
    → TookPart now.reading read.reading read.reading.ended
    ⊎ ((line : List ℕ) × TookLines now.reading read.reading (line ∷ []))
    → Wrote read.writing next.writing [] → next.reading ≡ read.reading
    → AnsweredInput answers result was next begun ended
ended_memory {T} {E} {answers} {result} {was} {now} {begun} {after} {ended} read next is s unwritten touched wrote
    unread =
    let P : Writing → Type 0 = λ w. Wrote w next.writing [] in
    let Q : List ℕ → Type 0 = λ t. Sends was.writing next.writing t in
    let R : Reading → Type 0 = λ r. StopsAfter was.reading r s.done in
    let flushed = subst P unwritten wrote in
    ended_at NoMemory is (λ h. cc) (λ _. (
      s.done,
      after,
      (
        s.text,
        s.answered,
        (
          subst Q (append-nil s.text) (sends_more was.writing now.writing next.writing s.text [] s.sent flushed.0),
          flushed.1,
        ),
      ),
      subst R (sym unread) (record { next = now.reading; took = s.took; touched = touched }),
    )) (λ h. cc)

-- memory was refused, and only the first part of the bytes that wait was written
pub ended_short_memory : {T E : Type 0} {answers : E → List ℕ → List ℕ → E → Type 0} {result : Result T AnswerFault}
    {was now : Transcript} {begun after ended : E} {count : ℕ} (read next : Transcript)
    → result ≡ Err Write → SoFar answers was now begun after count → read.writing ≡ now.writing
    → TookPart now.reading read.reading read.reading.ended
    ⊎ ((line : List ℕ) × TookLines now.reading read.reading (line ∷ []))
    → WroteShort read.writing next.writing [] → next.reading ≡ read.reading
    → AnsweredInput answers result was next begun ended
ended_short_memory {T} {E} {answers} {result} {was} {now} {begun} {after} {ended} read next is s unwritten touched
    short unread =
    let P : Writing → Type 0 = λ w. WroteShort w next.writing [] in
    let Q : List ℕ → Type 0 = λ t. WroteShort was.writing next.writing t in
    let R : Reading → Type 0 = λ r. StopsAfter was.reading r s.done in
    ended_at Write is (λ h. cc) (λ h. cc) (λ _. (
      s.done,
      after,
      s.text,
      s.answered,
      subst Q (append-nil s.text) (sends_short was.writing now.writing next.writing s.text [] s.sent
          (subst P unwritten short)),
      subst R (sym unread) (record { next = now.reading; took = s.took; touched = touched }),
    ))

-- if no line is held, nothing waits
pub none_waits : (held waiting : List ℕ) → Contains held 10 ⊎ (waiting ≡ []) → (Contains held 10 → ⊥) → waiting ≡ []
none_waits held waiting (inl holds) not_held = absurd (not_held holds)
none_waits held waiting (inr none) not_held = none
