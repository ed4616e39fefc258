use Rattle.std.proofs.Common.{◌≡◌, ◌≢◌, Ok, Err, ◌∙◌, arith}
use Rattle.std.proofs.lemmas.Bool.{false≢true}
use Rattle.std.proofs.lemmas.Result.{IfOk-weaker, IfErr-weaker}
use Rattle.serde_json.specs.View.{view}
use Rattle.sm_settings.specs.declared.settings_fault.SettingsFault.TheVariants.{NoMemory}
use Rattle.sm_settings.specs.SettingsLine.{values_of, settings_of}
use Rattle.sm_settings.specs.lemmas.LongLines.{settings_of_long}
use Rattle.sm_settings.specs.SettingsRules.{KeepsRules}
use Rattle.sm_settings.proofs.Rules.{verdict_keeps}
use Rattle.sm_settings.proofs.Lines.{settings_of_read, settings_of_unread}
use Rattle.sm_settings.proofs.settings.Settings.read.Goals as goal

pub returns-then-line-gt-MAX_SETTINGS-clause-err : goal.returns-then-line-gt-MAX_SETTINGS-clause-err
returns-then-line-gt-MAX_SETTINGS-clause-err c _ = settings_of_long c.args.line.now (omega arith)

pub returns-in-Ok-clause-ok : goal.returns-in-Ok-clause-ok
returns-in-Ok-clause-ok c =
    let read = c.in-Ok.ensures.ok in
    let same = settings_of_read c.args.line.now _ (omega arith) read.0 read.1 in
    IfOk-weaker c.judge.result _ (λ settings. settings_of c.args.line.now ≡ Ok (values_of settings))
    (λ settings given. same ∙ given) c.judge.ensures.ok

pub returns-in-Ok-clause-err : goal.returns-in-Ok-clause-err
returns-in-Ok-clause-err c =
    let read = c.in-Ok.ensures.ok in
    let same = settings_of_read c.args.line.now _ (omega arith) read.0 read.1 in
    IfErr-weaker c.judge.result _ (λ fault. fault ≢ NoMemory → settings_of c.args.line.now ≡ Err fault)
    (λ fault given other. same ∙ given other) c.judge.ensures.err

pub returns-in-Err-2-clause-err : goal.returns-in-Err-2-clause-err
returns-in-Err-2-clause-err c _ =
    settings_of_unread c.args.line.now (omega arith)
    (c.in-Err.ensures.err (λ memory. false≢true (c.if-is_memory.ensures.1 memory)))

pub returns-in-Ok-clause-rules : goal.returns-in-Ok-clause-rules
returns-in-Ok-clause-rules c =
    IfOk-weaker c.judge.result _ (λ settings. KeepsRules (values_of settings))
    (λ settings given. verdict_keeps (view c.in-Ok.value) (values_of settings) given) c.judge.ensures.ok
