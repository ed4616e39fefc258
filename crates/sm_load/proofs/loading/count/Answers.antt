use Rattle.std.proofs.Common.{◌≡◌, pos, rules, subst, to_z, of_z}
use Rattle.std.specs.Option.{unwrap_or}
use mir.Syntax.{w64}
use Rattle.sm_body.specs.Service.{meaning_of}
use Rattle.sm_load.specs.Loads.{HasLearnedReply}
use Rattle.sm_load.proofs.loading.count.Goals as goal

pub returns-in-Ok-learn-clause-told : goal.returns-in-Ok-learn-clause-told
returns-in-Ok-learn-clause-told g c =
    let reply = c.in-Ok-learn.reply in
    let same : to_z w64 (of_z w64 c.unwrap_or.result)
    ≡ unwrap_or (g.C.Counting.tells c.args.counting.now reply) (pos 0) = search rules in (
      reply,
      subst
          (λ (request : g.row.S-Request.Denot). HasLearnedReply (meaning_of g.S.Service.initial g.S.Service.next
          g.S.Service.answer g.S.Service.key_of) request c.args.client.now c.learn.new.client reply)
          c.in-Ok.ensures c.in-Ok-learn.ensures.learned,
      same,
    )
