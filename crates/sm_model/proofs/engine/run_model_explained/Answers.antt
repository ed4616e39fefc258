use Rattle.sm_model.proofs.Scripts.{accepted_settings, begins_alone, refused_settings, writes_script, wrote_script}
use Rattle.sm_lines.specs.lemmas.Rewording.{early_as}
use Rattle.sm_model.proofs.engine.run_model_explained.Goals as goal

pub returns-clause-wrote : goal.returns-clause-wrote
returns-clause-wrote g c = wrote_script _ _ c.run.result c.run.ensures.ran c.run.ensures.bad_settings

pub returns-clause-bad_settings : goal.returns-clause-bad_settings
returns-clause-bad_settings g c = λ is. refused_settings _ _ (c.run.ensures.bad_settings is)

pub returns-clause-stopped : goal.returns-clause-stopped
returns-clause-stopped g c = early_as _ _ _ _ _ _ writes_script c.run.ensures.stopped

pub returns-clause-no_thread : goal.returns-clause-no_thread
returns-clause-no_thread g c = λ is. begins_alone _ _ (c.run.ensures.stopped.no_thread is)

pub returns-clause-ran : goal.returns-clause-ran
returns-clause-ran g c = λ is. accepted_settings _ _ (c.run.ensures.ran is)
