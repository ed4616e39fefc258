use Rattle.std.proofs.Common.{refl, rules}
use Rattle.sm_body.specs.Service.{meaning_of}
use Rattle.sm_calls.proofs.Replying.{learns}
use Rattle.sm_calls.proofs.reply.channel_as.Goals as goal

pub another-other-requires-clause-rule : goal.another-other-requires-clause-rule
another-other-requires-clause-rule g c =
    learns (meaning_of g.S.Service.initial g.S.Service.next g.S.Service.answer g.S.Service.key_of) _ _ _ (search rules)
    (rw c.requires refl)
