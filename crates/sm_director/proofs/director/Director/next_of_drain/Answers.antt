use Rattle.sm_director.proofs.director.Director.next_of_drain.Goals as goal

pub returns-clause-told : goal.returns-clause-told
returns-clause-told c = (
  c.in_ok-control.control.now,
  c.in_ok-control.ensures.stands,
  (c.in_ok-step.ensures.exact, c.in_ok-step.ensures.allowed),
)
