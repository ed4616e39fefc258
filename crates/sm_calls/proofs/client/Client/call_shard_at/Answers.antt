use Rattle.std.proofs.Common.{subst}
use Rattle.sm_body.specs.Service.{meaning_of}
use Rattle.sm_calls.specs.Calls.{ClientValue}
use Rattle.sm_calls.specs.Exchanging.{IsLeftAfter, call_outcome}
use Rattle.sm_calls.proofs.Calling.{called_at, since_called}
use Rattle.sm_calls.proofs.client.Client.call_shard_at.Goals as goal

pub returns-in-Ok-clause-called : goal.returns-in-Ok-clause-called
returns-in-Ok-clause-called g c =
    let reply = c.exchange-reply.result in
    let after = c.taken.new.self in
    let left = subst (λ (client : ClientValue g.row.S-Request.Denot). IsLeftAfter client reply after)
    c.message.ensures.unchanged c.taken.ensures.client in
    rw c.taken.ensures.answer
    (called_at (meaning_of g.S.Service.initial g.S.Service.next g.S.Service.answer g.S.Service.key_of) c.args.self.now
    c.args.server c.args.number c.args.request c.in-Ok.message c.in-Ok.ensures.message reply after
    c.exchange-reply.ensures left)

pub returns-in-Ok-clause-since : goal.returns-in-Ok-clause-since
returns-in-Ok-clause-since g c =
    let service = meaning_of g.S.Service.initial g.S.Service.next g.S.Service.answer g.S.Service.key_of in
    let reply = c.exchange-reply.result in
    let after = c.taken.new.self in
    let left = subst (λ (client : ClientValue g.row.S-Request.Denot). IsLeftAfter client reply after)
    c.message.ensures.unchanged c.taken.ensures.client in
    since_called service c.args.server c.args.number c.args.request c.args.self.now after (call_outcome reply)
    (called_at service c.args.self.now c.args.server c.args.number c.args.request c.in-Ok.message
    c.in-Ok.ensures.message reply after
    c.exchange-reply.ensures left)
