use Rattle.std.proofs.Common.{◌≡◌, ◌∙◌, ℕ, List, [], ◌∷◌, Err, ap, refl, sym, inl, inr, subst}
use Rattle.std.proofs.lemmas.Result.{on_ok_weaker}
use Rattle.sm_settings.specs.declared.settings_fault.SettingsFault.{SettingsFault}
use Rattle.sm_lines.specs.Reading.{Reading, TookLines}
use Rattle.sm_lines.specs.Writing.{Writing}
use Rattle.sm_lines.specs.Openings.{IsRefused}
use Rattle.sm_lines.specs.declared.begin_fault.BeginFault.{BeginFault}
use Rattle.sm_lines.specs.declared.begin_fault.BeginFault.TheVariants.{Settings as IsOfSettings}
use Rattle.sm_lines.specs.declared.run_fault.RunFault.TheVariants.{Read, Write, NoMemory, NoThread}
use Rattle.sm_lines.proofs.Refusals.{Refusing, refused_by_engine, refused_early, refused_script, refused_watched}
use Rattle.sm_lines.proofs.Stops.{answered_after, early_session, early_unread, none_read, opened}
use Rattle.sm_lines.proofs.Stops.{ran_session, refused_opening, stopped_first, touched_refused}
use Rattle.sm_lines.proofs.Watches.{watched_session, watched_unread}
use Rattle.sm_lines.proofs.script_run.run.Goals as goal

pub returns-in-Ok-clause-ran : goal.returns-in-Ok-clause-ran
returns-in-Ok-clause-ran g c = λ is.
    let was = c.args.dialogue.now in
    let mid = c.open.new.dialogue in
    let first_line = c.in-Ok-Kept.ensures in
    let took = opened was.reading mid.reading c.in-Ok-Kept.field-0 c.in-Ok-Kept.field-0-is first_line.opening in
    let answered = c.run_session.ensures.answered in
    let B : List ℕ → Type 0 = λ l. g.E.Engine.begins l c.in-Ok.session in
    ran_session _ _ mid.reading.line c.run_session.result was mid.reading c.run_session.new.dialogue c.in-Ok.session
    answered.0 took (subst B c.line.ensures c.in-Ok.ensures.begun) (sym c.ending.ensures ∙ is)
    (answered_after was mid c.run_session.new.dialogue first_line.unwritten answered.1)

pub returns-in-Ok-clause-stopped : goal.returns-in-Ok-clause-stopped
returns-in-Ok-clause-stopped g c =
    let was = c.args.dialogue.now in
    let mid = c.open.new.dialogue in
    let first_line = c.in-Ok-Kept.ensures in
    let took = opened was.reading mid.reading c.in-Ok-Kept.field-0 c.in-Ok-Kept.field-0-is first_line.opening in
    let answered = c.run_session.ensures.answered in
    let B : List ℕ → Type 0 = λ l. g.E.Engine.begins l c.in-Ok.session in
    rw c.ending.ensures (early_session g.E.Engine.refuses g.E.Engine.begins _ mid.reading.line c.run_session.result was
    mid.reading c.run_session.new.dialogue c.in-Ok.session answered.0 took
    (subst B c.line.ensures c.in-Ok.ensures.begun)
    (answered_after was mid c.run_session.new.dialogue first_line.unwritten answered.1))

pub returns-in-Ok-clause-watched : goal.returns-in-Ok-clause-watched
returns-in-Ok-clause-watched g c =
    let was = c.args.dialogue.now in
    let mid = c.open.new.dialogue in
    let first_line = c.in-Ok-Kept.ensures in
    let took = opened was.reading mid.reading c.in-Ok-Kept.field-0 c.in-Ok-Kept.field-0-is first_line.opening in
    let answered = c.run_session.ensures.answered in
    rw c.ending.ensures (watched_session _ c.run_session.result was mid.reading c.run_session.new.dialogue
    c.in-Ok.session answered.0 mid.reading.line took (first_line.unfailed (λ e. cc))
    (answered_after was mid c.run_session.new.dialogue first_line.unwritten answered.1)
    c.run_session.ensures.read_unfailed
    (λ other. c.run_session.ensures.write_unfailed other ∙ ap (λ w. w.failed) first_line.unwritten))

pub returns-in-Err-begin-clause-bad_settings : goal.returns-in-Err-begin-clause-bad_settings
returns-in-Err-begin-clause-bad_settings g c =
    let was = c.args.dialogue.now in
    let mid = c.open.new.dialogue in
    let now = c.leave_unbegun.new.dialogue in
    let left = c.leave_unbegun.ensures in
    let first_line = c.in-Ok-Kept.ensures in
    let fault = c.in-Err-begin.fault in
    let P : Writing → Type 0 = λ w. Refusing c.leave_unbegun.result (λ why. fault ≡ IsOfSettings why) w now.writing in
    let r = subst P first_line.unwritten (record {
      wrote = left.wrote;
      status = left.status;
      write = left.write;
      no_memory = left.no_memory;
      no_thread = λ is. (left.no_thread is).1;
      read = left.read;
    }) in
    let Q : Reading → Type 0 = λ x. TookLines was.reading x (mid.reading.line ∷ []) in
    let took = subst Q (sym left.unread)
    (opened was.reading mid.reading c.in-Ok-Kept.field-0 c.in-Ok-Kept.field-0-is first_line.opening) in
    let B : List ℕ → Type 0 = λ l. g.E.Engine.refuses l fault in
    let refuses = subst B c.line.ensures c.in-Err-begin.ensures.refused in
    refused_script g.E.Engine.refuses c.leave_unbegun.result was now r
    (refused_by_engine g.E.Engine.refuses was.reading now.reading mid.reading.line fault took refuses)

pub returns-in-Err-begin-clause-stopped : goal.returns-in-Err-begin-clause-stopped
returns-in-Err-begin-clause-stopped g c =
    let was = c.args.dialogue.now in
    let mid = c.open.new.dialogue in
    let now = c.leave_unbegun.new.dialogue in
    let left = c.leave_unbegun.ensures in
    let first_line = c.in-Ok-Kept.ensures in
    let fault = c.in-Err-begin.fault in
    let P : Writing → Type 0 = λ w. Refusing c.leave_unbegun.result (λ why. fault ≡ IsOfSettings why) w now.writing in
    let r = subst P first_line.unwritten (record {
      wrote = left.wrote;
      status = left.status;
      write = left.write;
      no_memory = left.no_memory;
      no_thread = λ is. (left.no_thread is).1;
      read = left.read;
    }) in
    let Q : Reading → Type 0 = λ x. TookLines was.reading x (mid.reading.line ∷ []) in
    let took = subst Q (sym left.unread)
    (opened was.reading mid.reading c.in-Ok-Kept.field-0 c.in-Ok-Kept.field-0-is first_line.opening) in
    let B : List ℕ → Type 0 = λ l. g.E.Engine.refuses l fault in
    let refuses = subst B c.line.ensures c.in-Err-begin.ensures.refused in
    let F : BeginFault → Type 0 = g.E.Engine.refuses mid.reading.line in
    refused_early g.E.Engine.refuses _ c.leave_unbegun.result was now r
    (refused_by_engine g.E.Engine.refuses was.reading now.reading mid.reading.line fault took refuses)
    (inr (mid.reading.line, took))
    (λ is. let none = left.no_thread is in
    (mid.reading.line, took, subst F none.0 refuses, none.1 ∙ first_line.unwritten)) refl

pub returns-in-Err-begin-clause-watched : goal.returns-in-Err-begin-clause-watched
returns-in-Err-begin-clause-watched g c =
    let was = c.args.dialogue.now in
    let mid = c.open.new.dialogue in
    let now = c.leave_unbegun.new.dialogue in
    let left = c.leave_unbegun.ensures in
    let first_line = c.in-Ok-Kept.ensures in
    let fault = c.in-Err-begin.fault in
    let P : Writing → Type 0 = λ w. Refusing c.leave_unbegun.result (λ why. fault ≡ IsOfSettings why) w now.writing in
    let r = subst P first_line.unwritten (record {
      wrote = left.wrote;
      status = left.status;
      write = left.write;
      no_memory = left.no_memory;
      no_thread = λ is. (left.no_thread is).1;
      read = left.read;
    }) in
    let Q : Reading → Type 0 = λ x. TookLines was.reading x (mid.reading.line ∷ []) in
    let took = subst Q (sym left.unread)
    (opened was.reading mid.reading c.in-Ok-Kept.field-0 c.in-Ok-Kept.field-0-is first_line.opening) in
    refused_watched c.leave_unbegun.result was now r (inr (mid.reading.line, took))
    (ap (λ x. x.failed) left.unread ∙ first_line.unfailed (λ e. cc))

pub returns-in-Ok-Refused-clause-bad_settings : goal.returns-in-Ok-Refused-clause-bad_settings
returns-in-Ok-Refused-clause-bad_settings g c =
    let was = c.args.dialogue.now in
    let mid = c.open.new.dialogue in
    let now = c.refuse.new.dialogue in
    let left = c.refuse.ensures in
    let first_line = c.in-Ok-Refused.ensures in
    let fault = c.in-Ok-Refused.fault in
    let P : Writing → Type 0 = λ w. Refusing c.refuse.result (λ why. why ≡ fault) w now.writing in
    let r = subst P first_line.unwritten (record {
      wrote = on_ok_weaker c.refuse.result (λ wrote. (fault, refl, wrote)) left.wrote;
      status = left.status;
      write = λ is. (fault, refl, left.write is);
      no_memory = left.no_memory;
      no_thread = λ is. absurd (left.no_thread is);
      read = left.read;
    }) in
    let Q : Reading → Type 0 = λ x. IsRefused g.E.Engine.refuses fault was.reading x in
    let o = subst Q (sym left.unread) (refused_opening g.E.Engine.refuses was.reading mid.reading
    c.in-Ok-Refused.field-0 fault c.in-Ok-Refused.field-0-is first_line.opening) in
    let S : SettingsFault → Type 0 = λ why. IsRefused g.E.Engine.refuses why was.reading now.reading in
    refused_script g.E.Engine.refuses c.refuse.result was now r (λ why is. subst S (sym is) o)

pub returns-in-Ok-Refused-clause-stopped : goal.returns-in-Ok-Refused-clause-stopped
returns-in-Ok-Refused-clause-stopped g c =
    let was = c.args.dialogue.now in
    let mid = c.open.new.dialogue in
    let now = c.refuse.new.dialogue in
    let left = c.refuse.ensures in
    let first_line = c.in-Ok-Refused.ensures in
    let fault = c.in-Ok-Refused.fault in
    let P : Writing → Type 0 = λ w. Refusing c.refuse.result (λ why. why ≡ fault) w now.writing in
    let r = subst P first_line.unwritten (record {
      wrote = on_ok_weaker c.refuse.result (λ wrote. (fault, refl, wrote)) left.wrote;
      status = left.status;
      write = λ is. (fault, refl, left.write is);
      no_memory = left.no_memory;
      no_thread = λ is. absurd (left.no_thread is);
      read = left.read;
    }) in
    let Q : Reading → Type 0 = λ x. IsRefused g.E.Engine.refuses fault was.reading x in
    let o = subst Q (sym left.unread) (refused_opening g.E.Engine.refuses was.reading mid.reading
    c.in-Ok-Refused.field-0 fault c.in-Ok-Refused.field-0-is first_line.opening) in
    let S : SettingsFault → Type 0 = λ why. IsRefused g.E.Engine.refuses why was.reading now.reading in
    refused_early g.E.Engine.refuses _ c.refuse.result was now r (λ why is. subst S (sym is) o)
    (touched_refused g.E.Engine.refuses fault was.reading now.reading o) (λ is. absurd (left.no_thread is)) refl

pub returns-in-Ok-Refused-clause-watched : goal.returns-in-Ok-Refused-clause-watched
returns-in-Ok-Refused-clause-watched g c =
    let was = c.args.dialogue.now in
    let mid = c.open.new.dialogue in
    let now = c.refuse.new.dialogue in
    let left = c.refuse.ensures in
    let first_line = c.in-Ok-Refused.ensures in
    let fault = c.in-Ok-Refused.fault in
    let P : Writing → Type 0 = λ w. Refusing c.refuse.result (λ why. why ≡ fault) w now.writing in
    let r = subst P first_line.unwritten (record {
      wrote = on_ok_weaker c.refuse.result (λ wrote. (fault, refl, wrote)) left.wrote;
      status = left.status;
      write = λ is. (fault, refl, left.write is);
      no_memory = left.no_memory;
      no_thread = λ is. absurd (left.no_thread is);
      read = left.read;
    }) in
    let Q : Reading → Type 0 = λ x. IsRefused g.E.Engine.refuses fault was.reading x in
    let o = subst Q (sym left.unread) (refused_opening g.E.Engine.refuses was.reading mid.reading
    c.in-Ok-Refused.field-0 fault c.in-Ok-Refused.field-0-is first_line.opening) in
    refused_watched c.refuse.result was now r (touched_refused g.E.Engine.refuses fault was.reading now.reading o)
    (ap (λ x. x.failed) left.unread ∙ first_line.unfailed (λ e. cc))

pub returns-in-Err-clause-stopped : goal.returns-in-Err-clause-stopped
returns-in-Err-clause-stopped g c =
    let was = c.args.dialogue.now in
    let now = c.open.new.dialogue in
    let first_line = c.in-Err.ensures in
    early_unread _ _ _ was now
    (λ is. let fault : c.in-Err.fault ≡ Read = cc in
    none_read _ was now refl first_line.unwritten (first_line.read (ap Err fault)))
    (λ is. let fault : c.in-Err.fault ≡ NoMemory = cc in
    stopped_first _ was now refl first_line.unwritten (inl (first_line.no_memory (ap Err fault))))
    (λ is. let fault : c.in-Err.fault ≡ NoThread = cc in first_line.no_thread (ap Err fault))
    (λ is. let fault : c.in-Err.fault ≡ Write = cc in first_line.write (ap Err fault))

pub returns-in-Err-clause-watched : goal.returns-in-Err-clause-watched
returns-in-Err-clause-watched g c =
    let first_line = c.in-Err.ensures in
    watched_unread c.in-Err.fault c.args.dialogue.now c.open.new.dialogue (λ is. first_line.write (ap Err is))
    (λ is. let fault : c.in-Err.fault ≡ Read = cc in first_line.read (ap Err fault))
    (λ is. let fault : c.in-Err.fault ≡ NoMemory = cc in inl (first_line.no_memory (ap Err fault)))
    (λ is. first_line.no_thread (ap Err is))
    (λ other. first_line.unfailed (λ is. let fault : c.in-Err.fault ≡ Read = cc in other (ap Err fault)))
    first_line.unwritten
