use Rattle.sm_body.specs.Service.{meaning_of}
use Rattle.sm_calls.proofs.Replying.{sends}
use Rattle.sm_calls.proofs.reply.ReplySender.send.Goals as goal

pub send_as-requires-clause-rule : goal.send_as-requires-clause-rule
send_as-requires-clause-rule g c = (
  sends (meaning_of g.S.Service.initial g.S.Service.next g.S.Service.answer g.S.Service.key_of) _ _ _ _ (rw
      c.self.view_is c.requires),
  λ _ _ _ _. tt,
)
