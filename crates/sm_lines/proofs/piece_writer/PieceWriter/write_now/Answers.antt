use Rattle.std.proofs.Common.{[], List, ℕ, append-nil, subst}
use Rattle.std.proofs.lemmas.Result.{on_err_weaker, on_ok_weaker}
use Rattle.sm_lines.specs.Writing.{Sends, WroteShort}
use Rattle.sm_lines.proofs.Writing.{sends_more, sends_short}
use Rattle.sm_lines.proofs.piece_writer.PieceWriter.write_now.Goals as goal

pub returns-clause-ok : goal.returns-clause-ok
returns-clause-ok g c =
    let P : List ℕ → Type 0 = λ b. Sends c.args.self.now c.send.new.self b in
    on_ok_weaker c.send.result
    (λ sent. (
      subst P (append-nil c.args.bytes.now)
          (sends_more c.args.self.now c.write.new.self c.send.new.self c.args.bytes.now [] c.in_ok-write.ensures.ok
          sent.0),
      sent.1,
    )) c.send.ensures.ok

pub returns-clause-err : goal.returns-clause-err
returns-clause-err g c =
    let P : List ℕ → Type 0 = λ b. WroteShort c.args.self.now c.send.new.self b in
    on_err_weaker c.send.result
    (λ short. subst P (append-nil c.args.bytes.now)
    (sends_short c.args.self.now c.write.new.self c.send.new.self c.args.bytes.now [] c.in_ok-write.ensures.ok
    short)) c.send.ensures.err
