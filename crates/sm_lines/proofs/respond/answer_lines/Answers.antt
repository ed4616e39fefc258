use Rattle.std.proofs.Common.{arith, ◌∙◌, ap, Ok, Err, refl}
use Rattle.std.proofs.lemmas.Result.{err_from_is_err_and}
use Rattle.sm_lines.proofs.AnswerLemmas.{ended_counted, ended_memory, ended_reading, ended_short, ended_short_line}
use Rattle.sm_lines.proofs.AnswerLemmas.{ended_short_memory, ended_well, none_waits, so_far_line, so_far_none}
use Rattle.sm_lines.proofs.AnswerLemmas.{so_far_sent}
use Rattle.sm_lines.proofs.respond.answer_lines.Goals as goal

pub lines-init : goal.lines-init
lines-init g c =
    let orderly = c.stays_orderly.ensures in
    record {
      so_far = so_far_none c.args.dialogue.now c.args.responder.now
          (record { piece = orderly.piece; came = orderly.came; end = orderly.end });
      read_unfailed = refl;
      write_unfailed = refl;
      ready = c.requires.ready;
    }

pub returns-in_err-flush_before_read-clause-answered : goal.returns-in_err-flush_before_read-clause-answered
returns-in_err-flush_before_read-clause-answered g c =
    let fault = err_from_is_err_and c.from_residual.result c.from_residual.ensures.1 in
    let flush = c.in_err-flush_before_read.ensures in
    ended_short c.flush_before_read.new.dialogue (fault.1 ∙ ap Err fault.2) c.lines.invariant.so_far flush.err
    flush.unread

pub returns-in_err-write-in-Ok-true-clause-answered : goal.returns-in_err-write-in-Ok-true-clause-answered
returns-in_err-write-in-Ok-true-clause-answered g c =
    let fault = err_from_is_err_and c.from_residual-in_err-write-in-Ok-true.result
    c.from_residual-in_err-write-in-Ok-true.ensures.1 in
    let flush = c.in_ok-flush_before_read.ensures in
    let so_far = so_far_sent c.flush_before_read.new.dialogue c.lines.invariant.so_far flush.ok flush.unread in
    let read = c.in-Ok-true.ensures in
    let wrote = c.in_err-write-in-Ok-true.ensures in
    ended_short_line c.answer_next.new.dialogue c.write.new.self (fault.1 ∙ ap Err fault.2) so_far
    (read.line c.in-Ok-true.field-0-test) read.unwritten
    (rw c.as_slice.ensures.value at wrote.err) wrote.unread

pub returns-in-Ok-false-clause-answered : goal.returns-in-Ok-false-clause-answered
returns-in-Ok-false-clause-answered g c =
    let flush = c.in_ok-flush_before_read.ensures in
    let so_far = so_far_sent c.flush_before_read.new.dialogue c.lines.invariant.so_far flush.ok flush.unread in
    let read = c.in-Ok-false.ensures in
    let end = read.end c.in-Ok-false.field-0-test in
    let none = none_waits _ _ flush.none_waits
    (λ is. (read.held (rw flush.unread is)).0 (ap Ok c.in-Ok-false.field-0-test)) in
    ended_well c.answer_next.new.dialogue so_far none read.unwritten end.0 end.1 end.2

pub returns-in-Err-Read-clause-answered : goal.returns-in-Err-Read-clause-answered
returns-in-Err-Read-clause-answered g c =
    let flush = c.in_ok-flush_before_read.ensures in
    let so_far = so_far_sent c.flush_before_read.new.dialogue c.lines.invariant.so_far flush.ok flush.unread in
    let read = c.in-Err-Read.ensures in
    let is = ap Err c.in-Err-Read.field-0-is in
    let stop = read.read is in
    let none = none_waits _ _ flush.none_waits (λ held. (read.held (rw flush.unread held)).1 is) in
    ended_reading c.answer_next.new.dialogue refl so_far none read.unwritten stop.0 stop.1

pub returns-in_err-flush-in-Err-NoMemory-clause-answered : goal.returns-in_err-flush-in-Err-NoMemory-clause-answered
returns-in_err-flush-in-Err-NoMemory-clause-answered g c =
    let fault = err_from_is_err_and c.from_residual-in_err-flush-in-Err-NoMemory.result
    c.from_residual-in_err-flush-in-Err-NoMemory.ensures.1 in
    let flush = c.in_ok-flush_before_read.ensures in
    let so_far = so_far_sent c.flush_before_read.new.dialogue c.lines.invariant.so_far flush.ok flush.unread in
    let read = c.in-Err-NoMemory.ensures in
    let last = c.in_err-flush-in-Err-NoMemory.ensures in
    ended_short_memory c.answer_next.new.dialogue c.flush.new.self (fault.1 ∙ ap Err fault.2) so_far read.unwritten
    (read.no_memory (ap Err c.in-Err-NoMemory.field-0-is)) last.err last.unread

pub returns-in-Err-NoMemory-clause-answered : goal.returns-in-Err-NoMemory-clause-answered
returns-in-Err-NoMemory-clause-answered g c =
    let flush = c.in_ok-flush_before_read.ensures in
    let so_far = so_far_sent c.flush_before_read.new.dialogue c.lines.invariant.so_far flush.ok flush.unread in
    let read = c.in-Err-NoMemory.ensures in
    let last = c.in_ok-flush-in-Err-NoMemory.ensures in
    ended_memory c.answer_next.new.dialogue c.flush.new.self refl so_far read.unwritten
    (read.no_memory (ap Err c.in-Err-NoMemory.field-0-is)) last.ok last.unread

pub lines-preserved : goal.lines-preserved
lines-preserved g c =
    let flush = c.in_ok-flush_before_read.ensures in
    let before = c.lines.invariant in
    let so_far = so_far_sent c.flush_before_read.new.dialogue before.so_far flush.ok flush.unread in
    let read = c.in-Ok-true.ensures in
    let wrote = c.in_ok-write-in-Ok-true.ensures in
    record {
      so_far = so_far_line c.answer_next.new.dialogue c.write.new.self so_far (read.line c.in-Ok-true.field-0-test)
          read.unwritten (rw c.as_slice.ensures.value at wrote.ok) wrote.unread;
      read_unfailed = ap (λ r. r.failed) wrote.unread ∙ read.unfailed (λ e. cc) ∙ ap (λ r. r.failed) flush.unread
          ∙ before.read_unfailed;
      write_unfailed = wrote.ok.unfailed ∙ ap (λ w. w.failed) read.unwritten ∙ flush.ok.unfailed
          ∙ before.write_unfailed;
      ready = read.ready;
    }

pub returns-in_err-flush-clause-answered : goal.returns-in_err-flush-clause-answered
returns-in_err-flush-clause-answered g c =
    let fault = err_from_is_err_and c.from_residual-in_err-flush.result c.from_residual-in_err-flush.ensures.1 in
    let last = c.in_err-flush.ensures in
    ended_short c.flush-2.new.self (fault.1 ∙ ap Err fault.2) c.lines.invariant.so_far last.err last.unread

pub returns-clause-answered : goal.returns-clause-answered
returns-clause-answered g c =
    let last = c.in_ok-flush.ensures in
    ended_counted c.flush-2.new.self refl c.lines.invariant.so_far (omega (arith, c.lines.auto, c.lines-test.false))
    last.ok last.unread
