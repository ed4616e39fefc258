use Rattle.std.proofs.Common.{refl, subst}
use Rattle.sm_body.specs.Service.{meaning_of}
use Rattle.sm_load.specs.Loads.{HasLearnedReply}
use Rattle.sm_calls.specs.lemmas.Since.{since_same}
use Rattle.sm_load.proofs.Acking.{reply_before}
use Rattle.sm_load.proofs.loading.ask.Goals as goal

pub loop-retry-init : goal.loop-retry-init
loop-retry-init g c = (refl, since_same c.args.client.now)

pub returns-in-Ok-clause-learned : goal.returns-in-Ok-clause-learned
returns-in-Ok-clause-learned g c =
    let service = meaning_of g.S.Service.initial g.S.Service.next g.S.Service.answer g.S.Service.key_of in
    let learned = subst (λ (request : g.row.S-Request.Denot). HasLearnedReply service request c.loop-retry.client
    c.learn.new.client c.in-Ok.reply) c.loop-retry.invariant.0 c.in-Ok.ensures.learned in
    reply_before service c.args.request c.args.client.now c.loop-retry.client c.learn.new.client c.in-Ok.reply
    c.loop-retry.invariant.1 learned
