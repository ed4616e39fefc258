use Rattle.sm_lines.specs.lemmas.Rewording.{early_as, ran_as}
use Rattle.sm_threads.proofs.Lines.{writes_answers}
use Rattle.sm_threads.proofs.running.run_threads_explained.Goals as goal

pub returns-clause-ran : goal.returns-clause-ran
returns-clause-ran g c = λ is. ran_as _ _ _ _ writes_answers (c.run.ensures.ran is)

pub returns-clause-stopped : goal.returns-clause-stopped
returns-clause-stopped g c = early_as _ _ _ _ _ _ writes_answers c.run.ensures.stopped
