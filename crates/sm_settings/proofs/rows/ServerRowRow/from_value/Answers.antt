use Rattle.std.proofs.Common.{rules}
use Rattle.sm_settings.proofs.rows.ServerRowRow.from_value.Goals as goal

pub returns : goal.returns
returns c = search rules
