use Rattle.std.proofs.Common.{◌∙◌, sym, rules}
use Rattle.sm_script.specs.Grammar.{arguments_fault}
use Rattle.sm_script.specs.Lines.{request_with}
use Rattle.sm_script.specs.declared.call.Call.TheVariants.{Request}
use Rattle.sm_script.proofs.LineLemmas.{fault_of_request}
use Rattle.sm_script.proofs.line.owner_request.Goals as goal

pub returns-in-Err-clause-err : goal.returns-in-Err-clause-err
returns-in-Err-clause-err c =
    fault_of_request (λ request. Request request) (arguments_fault c.args.form.shapes.now c.args.words)
    (request_with c.args.form.shapes.now c.args.form.word c.args.words) c.in-Err.fault (λ request. search rules)
    (sym c.arguments_fault.ensures ∙ c.in-None.is) c.in-Err.ensures.err
