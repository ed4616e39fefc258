use Rattle.std.proofs.Common.{◌∙◌}
use Rattle.sm_settings.proofs.Viewed.{all_viewed}
use Rattle.sm_settings.proofs.rows.has_rows.Goals as goal

pub returns-in-Some : goal.returns-in-Some
returns-in-Some g c = c.have_shape.ensures ∙ all_viewed g.T.Row.is_object c.in-Some.values.now _ c.in-Some.ensures
