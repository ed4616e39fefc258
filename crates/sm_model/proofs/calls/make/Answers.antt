use Rattle.sm_model.proofs.Requests.{steps_plainly}
use Rattle.sm_model.proofs.calls.make.Goals as goal

pub returns-clause-steps : goal.returns-clause-steps
returns-clause-steps c =
    steps_plainly _ _ _ _ c.step.ensures.stands c.step.ensures.marks c.requires.no_memory.0 c.requires.no_memory.1
