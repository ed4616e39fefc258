use Rattle.std.proofs.Common.{◌≡◌, subst, List}
use Rattle.sm_lead.specs.declared.follower.Follower.{Follower}
use Rattle.sm_lead.specs.NextSteps.{fallen}
use Rattle.sm_director.proofs.director.Director.fallen.Goals as goal

pub returns-clause-told : goal.returns-clause-told
returns-clause-told c = (
  c.in_ok-control.control.now,
  c.in_ok-control.ensures.stands,
  subst (λ (fs : List Follower). c.fallen_server.result ≡ fallen c.in_ok-control.control.now.desk.books fs)
      c.deref.ensures.value c.fallen_server.ensures,
)
