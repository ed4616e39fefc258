use Rattle.std.proofs.lemmas.Result.{err_from_is_err_and}
use Rattle.serde_json.specs.View.{view}
use Rattle.sm_settings.proofs.Rules.{base_fault}
use Rattle.sm_settings.proofs.settings.judge.Goals as goal

pub returns-in_err-settings-clause-err : goal.returns-in_err-settings-clause-err
returns-in_err-settings-clause-err c =
    let p = err_from_is_err_and c.from_residual.result c.from_residual.ensures.1 in
    rw (p.1, p.2) (λ other. base_fault (view c.args.value.now) _ (c.in_err-settings.ensures.err other))
