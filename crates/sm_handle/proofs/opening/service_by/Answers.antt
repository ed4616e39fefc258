use Rattle.std.proofs.Common.{◌≡◌, ◌∙◌, ℕ, [], ap, length, map, replicate, subst}
use Rattle.std.specs.Prelude.{IfOk, List}
use Rattle.sm_foreign.specs.Chiefs.{IsControlBy}
use Rattle.sm_service.specs.Service.{TextLog}
use Rattle.sm_settings.specs.SettingsLine.{values_of}
use Rattle.sm_handle.proofs.Bodies.{limits_of}
use Rattle.sm_handle.proofs.opening.service_by.Goals as goal

pub returns-clause-made : goal.returns-clause-made
returns-clause-made c =
    let body : TextLog = record { base = []; before = 0; requests = []; limit = c.args.settings.now.kept } in
    let rows : c.len.result ≡ length c.args.settings.now.shards.items =
    c.len.ensures ∙ c.args.settings.now.shards.ok.0 in
    subst (λ (limits : List ℕ).
    IfOk c.by_settings.result (λ chief. IsControlBy chief.value limits (values_of c.args.settings.now)))
    (ap (map (λ (each : TextLog). each.limit)) c.in-Ok.ensures
    ∙ (limits_of c.len.result body ∙ ap (λ n. replicate n body.limit) rows))
    c.by_settings.ensures.made
