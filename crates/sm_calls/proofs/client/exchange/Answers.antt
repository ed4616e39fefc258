use Rattle.std.proofs.Common.{◌≡◌, sym, ap, ◌∙◌, subst}
use Rattle.std.specs.Prelude.{IfOk, Option}
use Rattle.sm_body.specs.Service.{meaning_of}
use Rattle.sm_calls.specs.Replies.{CallValue, Fits, IsOnTheWay}
use Rattle.sm_calls.proofs.Travelling.{held_up, way_begins}
use Rattle.sm_calls.proofs.client.exchange.Goals as goal

pub returns-in-Ok : goal.returns-in-Ok
returns-in-Ok g c =
    let service = meaning_of g.S.Service.initial g.S.Service.next g.S.Service.answer g.S.Service.key_of in
    subst (λ (known : Option (CallValue g.row.S-Request.Denot)). IfOk c.receive.result (Fits service known)) c.requires
    c.receive.ensures

pub returns-in-Err : goal.returns-in-Err
returns-in-Err g c =
    let service = meaning_of g.S.Service.initial g.S.Service.next g.S.Service.answer g.S.Service.key_of in
    let same : c.into_envelope.result ≡ c.args.message.sent =
    c.into_envelope.ensures ∙ ap (λ (asked : CallValue g.row.S-Request.Denot). asked.sent) c.in-Err.ensures in (
      subst (IsOnTheWay c.args.message.sent) (sym same) (way_begins c.args.message.sent),
      held_up service c.args.message c.from.result c.into_envelope.result c.from.ensures,
    )
