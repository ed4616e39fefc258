use Rattle.std.proofs.Common.{ℕ, ap, sym, ◌∙◌, arith, Ok}
use Rattle.sm_word.specs.Word.{word_of}
use Rattle.sm_codec.specs.Reading.{pair_in}
use Rattle.sm_codec.proofs.Heads.{fails_apart, pair_again}
use Rattle.sm_codec.proofs.Records.{record_found, record_is, record_same, unread, word_below}
use Rattle.sm_codec.proofs.reading.read_record.Goals as goal

pub returns-in-Some-clause-found : goal.returns-in-Some-clause-found
returns-in-Some-clause-found c =
    let is = (c.unpack.ensures c.in-Some.state).0 c.in-Some.is in (
      is.0,
      record_found c.args.bytes.now c.in-Ok.word c.in-Ok.process c.in-Some.state
          (λ i. omega (arith, c.type_inv.bytes i)) c.in-Ok.ensures is.1,
    )

pub returns-in-Some-clause-only : goal.returns-in-Some-clause-only
returns-in-Some-clause-only c = λ stored formed two is.
    let same = record_is c.args.bytes.now c.in-Ok.word c.in-Ok.process stored formed two is c.in-Ok.ensures in
    record_same stored c.in-Some.state c.in-Ok.process
    (sym ((c.unpack.ensures stored.state).1 (formed, same.0)) ∙ c.in-Some.is) same.1

pub returns-in-None-clause-only : goal.returns-in-None-clause-only
returns-in-None-clause-only c = λ stored formed two is.
    let same = record_is c.args.bytes.now c.in-Ok.word c.in-Ok.process stored formed two is c.in-Ok.ensures in
    absurd (unread stored.state c.unpack.result c.in-None.is ((c.unpack.ensures stored.state).1 (formed, same.0)))

pub returns-in-Err-clause-only : goal.returns-in-Err-clause-only
returns-in-Err-clause-only c = λ stored formed two is.
    let pair : ℕ × ℕ = (word_of stored.state, stored.process) in
    fails_apart c.in-Err.error (pair_in c.args.bytes.now) pair
    (ap pair_in is ∙ pair_again (word_of stored.state) stored.process (word_below stored.state formed) two)
    c.in-Err.ensures (Ok stored)
