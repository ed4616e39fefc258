use Rattle.sm_body.specs.Service.{meaning_of}
use Rattle.sm_calls.proofs.Replying.{receives}
use Rattle.sm_calls.proofs.reply.ReplyReceiver.receive_crossing.Goals as goal

pub try_recv_as-requires-clause-rule : goal.try_recv_as-requires-clause-rule
try_recv_as-requires-clause-rule g c = (
  receives (meaning_of g.S.Service.initial g.S.Service.next g.S.Service.answer g.S.Service.key_of) _ _,
  λ _ _ _ _. tt,
)

pub recv_as-requires-clause-rule : goal.recv_as-requires-clause-rule
recv_as-requires-clause-rule g c = (
  receives (meaning_of g.S.Service.initial g.S.Service.next g.S.Service.answer g.S.Service.key_of) _ _,
  λ _ _ _ _. tt,
)
