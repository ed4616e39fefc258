use Rattle.std.proofs.Common.{◌∙◌, sym}
use Rattle.sm_script.proofs.NumberLemmas.{number-read, read-is_decimal, IsUtf8-number, not_decimal, not_number}
use Rattle.sm_script.proofs.number.number.Goals as goal

pub returns-then-not-is_number-clause-not_spelled : goal.returns-then-not-is_number-clause-not_spelled
returns-then-not-is_number-clause-not_spelled c =
    not_number c.args.word.now c.is_number.result c.is_number.ensures c.if-not-is_number.true

pub returns-in-Ok-parse-clause-spelled : goal.returns-in-Ok-parse-clause-spelled
returns-in-Ok-parse-clause-spelled c =
    read-is_decimal c.args.word.now c.in-Ok.digits.now c.parse.result c.in-Ok-parse.number
    (sym c.is_number.ensures ∙ c.if-not-is_number.false)
    c.in-Ok.ensures.cases.0 c.parse.ensures.value.0 c.in-Ok-parse.is

pub returns-in-Err-parse-clause-value : goal.returns-in-Err-parse-clause-value
returns-in-Err-parse-clause-value c =
    number-read c.args.word.now c.in-Ok.digits.now c.parse.result c.in-Err-parse.field-0 c.in-Ok.ensures.cases.0
    c.parse.ensures.value.0 c.in-Err-parse.is

pub returns-in-Err-parse-clause-not_spelled : goal.returns-in-Err-parse-clause-not_spelled
returns-in-Err-parse-clause-not_spelled c =
    not_decimal c.args.word.now
    (number-read c.args.word.now c.in-Ok.digits.now c.parse.result c.in-Err-parse.field-0 c.in-Ok.ensures.cases.0
    c.parse.ensures.value.0 c.in-Err-parse.is)

pub returns-in-Err-clause-value : goal.returns-in-Err-clause-value
returns-in-Err-clause-value c = λ number. c.in-Err.ensures.cases.0 (IsUtf8-number c.args.word.now number.0)

pub returns-in-Err-clause-not_spelled : goal.returns-in-Err-clause-not_spelled
returns-in-Err-clause-not_spelled c =
    not_decimal c.args.word.now (λ number. c.in-Err.ensures.cases.0 (IsUtf8-number c.args.word.now number.0))
