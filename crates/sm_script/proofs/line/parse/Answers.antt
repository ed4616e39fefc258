use Rattle.std.proofs.Common.{◌∙◌, sym}
use Rattle.sm_script.proofs.LineLemmas.{fault_of_line}
use Rattle.sm_script.proofs.line.parse.Goals as goal

pub returns-in-Err-clause-fault : goal.returns-in-Err-clause-fault
returns-in-Err-clause-fault c =
    fault_of_line c.args.line.now c.new.result c.in-Err.fault
    (sym c.has_no_answer.ensures ∙ c.if-has_no_answer.false) c.if-line-gt-MAX_LINE.false
    c.new.ensures c.in-Err.ensures.err
