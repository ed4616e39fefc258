use Rattle.std.proofs.Common.{◌∙◌}
use Rattle.core.proofs.cmp.Settled.{eight_are}
use Rattle.sm_ranges.proofs.order.number_at.Goals as goal

pub returns : goal.returns
returns c = c.from_be_bytes.ensures ∙ eight_are c.args.bytes.now c.args.at c.requires
