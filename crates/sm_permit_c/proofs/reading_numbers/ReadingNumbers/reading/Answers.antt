use Rattle.std.proofs.Common.{ℕ, ap, sym}
use Rattle.sm_permit_c.specs.declared.reading_numbers.ReadingNumbers.{ReadingNumbers}
use Rattle.sm_permit_c.proofs.reading_numbers.ReadingNumbers.reading.Goals as goal

pub returns-clause-made : goal.returns-clause-made
returns-clause-made c =
    let is = (c.unpack.ensures c.in-Some.state).0 c.in-Some.is in
    let numbers : ReadingNumbers = c.args.self.now in
    let with : ℕ → ReadingNumbers = λ word. record numbers { word = word } in
    (is.0, ap with (sym is.1))
