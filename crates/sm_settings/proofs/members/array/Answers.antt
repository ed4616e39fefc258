use Rattle.std.proofs.Common.{ap, ◌∙◌, map, Some}
use Rattle.serde_json.specs.View.{view}
use Rattle.sm_settings.proofs.Viewed.{array_of_list}
use Rattle.sm_settings.proofs.members.array.Goals as goal

pub returns : goal.returns
returns c =
    ap (λ items. Some (map view items)) c.as_slice.ensures.value
    ∙ array_of_list c.in_ok-items.items.now.items
    (view c.in_ok-member.member.now) _ c.in_ok-items.ensures c.in_ok-member.ensures
