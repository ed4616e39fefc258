use Rattle.sm_settings.proofs.Viewed.{size_of_map}
use Rattle.sm_settings.proofs.members.has_size.Goals as goal

pub returns-in-Some : goal.returns-in-Some
returns-in-Some c = size_of_map c.in-Some.members.now.entries _ _ _ c.in-Some.ensures c.len.ensures.len
