use Rattle.std.proofs.Common.{[], refl}
use Rattle.std.proofs.lemmas.Result.{err_from_is_err_and, on_err_weaker, on_ok_weaker}
use Rattle.sm_lines.proofs.Writing.{passed_on, passed_short, sends_more, sends_short, short_first}
use Rattle.sm_lines.proofs.piece_writer.PieceWriter.write.Goals as goal

pub returns-in_err-flush-clause-err : goal.returns-in_err-flush-clause-err
returns-in_err-flush-clause-err g c =
    let p = err_from_is_err_and c.from_residual.result c.from_residual.ensures.1 in
    let full = c.if-push.ensures.full refl in
    rw (p.1, ← full) (short_first c.push.new.self c.flush.new.self c.args.bytes.now c.in_err-flush.ensures.err)

pub returns-clause-ok : goal.returns-clause-ok
returns-clause-ok g c =
    let flushed = c.in_ok-flush.ensures.ok in
    rw (← c.if-push.ensures.full refl) (on_ok_weaker c.pass_on.result
    (λ w. sends_more c.push.new.self c.push-2.new.self c.pass_on.new.self [] c.args.bytes.now
    (rw (c.if-push-2.ensures.full refl) flushed.0)
    (passed_on c.push-2.new.self c.pass_on.new.self c.args.bytes.now (rw (c.if-push-2.ensures.full refl) flushed.1)
    w.0 w.1 w.2)) c.pass_on.ensures.ok)

pub returns-clause-err : goal.returns-clause-err
returns-clause-err g c =
    let flushed = c.in_ok-flush.ensures.ok in
    rw (← c.if-push.ensures.full refl) (on_err_weaker c.pass_on.result
    (λ w. sends_short c.push.new.self c.push-2.new.self c.pass_on.new.self [] c.args.bytes.now
    (rw (c.if-push-2.ensures.full refl) flushed.0)
    (passed_short c.push-2.new.self c.pass_on.new.self c.args.bytes.now (rw (c.if-push-2.ensures.full refl) flushed.1)
    w.0 w.1 w.2)) c.pass_on.ensures.err)
