use Rattle.std.proofs.Common.{◌≡◌, true, length}
use Rattle.serde_json.specs.View.{view}
use Rattle.sm_settings.specs.Members.{has_size}
use Rattle.sm_settings.proofs.Viewed.{named_numbers}
use Rattle.sm_settings.proofs.members.has_numbers.Goals as goal

pub returns-then-has_size : goal.returns-then-has_size
returns-then-has_size c =
    let sized : true ≡ has_size (length c.args.names.now) (view c.args.value.now) = cc in
    named_numbers (λ name. name.now) c.args.names.now
    (view c.args.value.now) true c.have_numbers.result sized c.have_numbers.ensures
