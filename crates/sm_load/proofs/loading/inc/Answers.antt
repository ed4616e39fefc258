use Rattle.std.proofs.Common.{◌≡◌, rules, subst}
use Rattle.std.specs.Option.{is_some}
use Rattle.sm_body.specs.Service.{meaning_of}
use Rattle.sm_calls.specs.Since.{IsClientSince}
use Rattle.sm_load.specs.Loads.{HasLearnedCount, HasLearnedReply}
use Rattle.sm_load.proofs.Acking.{told_or_not}
use Rattle.sm_load.proofs.loading.inc.Goals as goal

pub returns-in-Some : goal.returns-in-Some
returns-in-Some g c =
    let service = meaning_of g.S.Service.initial g.S.Service.next g.S.Service.answer g.S.Service.key_of in
    let tells = g.C.Counting.tells c.args.counting.now in
    let adds = g.C.Counting.adds c.args.counting.now in
    let reply = c.in-Some.reply in
    let same : c.is_some.result ≡ is_some (tells reply) = search rules in
    let learned = subst (λ (request : g.row.S-Request.Denot). HasLearnedReply service request c.args.client.now
    c.ask.new.client reply) c.in-Ok.ensures c.in-Some.ensures.learned in
    told_or_not c.is_some.result (tells reply) (HasLearnedCount service tells adds c.args.client.now c.ask.new.client)
    (IsClientSince c.args.client.now c.ask.new.client) same
    (λ told is. record { reply = reply; told = told; learned = learned; tells = is; since = c.ask.ensures.since })
    c.ask.ensures.since
