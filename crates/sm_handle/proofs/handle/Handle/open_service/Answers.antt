use Rattle.std.proofs.Common.{◌∙◌, [], ap, length, map}
use Rattle.std.proofs.lemmas.List.{length-replicate}
use Rattle.sm_foreign.specs.Chiefs.{first_desk}
use Rattle.sm_service.specs.Service.{TextLog}
use Rattle.sm_handle.proofs.Bodies.{limits_of}
use Rattle.sm_handle.proofs.handle.Handle.open_service.Goals as goal

pub returns-in-Ok-keep-clause-made : goal.returns-in-Ok-keep-clause-made
returns-in-Ok-keep-clause-made c =
    let body : TextLog = record { base = []; before = 0; requests = []; limit = c.args.kept } in
    let rows = ap length c.in-Ok.ensures ∙ length-replicate c.args.count body in
    rw c.in-Ok-keep.ensures.kept (
      c.in_ok-chief.ensures.count ∙ rows,
      c.in_ok-chief.ensures.ceiling,
      c.in_ok-chief.ensures.bodies
          ∙ (ap (map (λ (each : TextLog). each.limit)) c.in-Ok.ensures ∙ limits_of c.args.count body),
      c.in_ok-chief.ensures.desk ∙ ap (λ n. first_desk c.args.servers n c.args.ops) rows,
    )
