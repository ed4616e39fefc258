use Rattle.std.proofs.Common.{◌≡◌, subst, List}
use Rattle.sm_lead.specs.declared.ack_read.AckRead.{AckRead}
use Rattle.sm_lead.specs.NextSteps.{server_step}
use Rattle.sm_director.proofs.director.Director.next_of_server.Goals as goal

pub returns-clause-told : goal.returns-clause-told
returns-clause-told c = (
  c.in_ok-control.control.now,
  c.in_ok-control.ensures.stands,
  (
    subst (λ (acks : List AckRead). c.next_of_server.result
        ≡ server_step c.in_ok-control.control.now acks c.args.server) c.deref.ensures.value
        c.next_of_server.ensures.exact,
    c.next_of_server.ensures.allowed,
  ),
)
