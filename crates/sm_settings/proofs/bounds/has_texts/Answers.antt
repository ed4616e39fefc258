use Rattle.std.proofs.Common.{◌∙◌}
use Rattle.sm_settings.specs.Members.{is_string}
use Rattle.sm_settings.proofs.Viewed.{all_viewed}
use Rattle.sm_settings.proofs.bounds.has_texts.Goals as goal

pub returns-in-Some : goal.returns-in-Some
returns-in-Some c = c.are_texts.ensures ∙ all_viewed is_string c.in-Some.values.now _ c.in-Some.ensures
