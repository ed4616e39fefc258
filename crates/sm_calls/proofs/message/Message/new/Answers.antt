use Rattle.std.proofs.Common.{refl}
use Rattle.std.specs.Arc.{arc_value}
use Rattle.sm_calls.proofs.Travelling.{reached_first}
use Rattle.sm_calls.proofs.message.Message.new.Goals as goal

pub invariant_of-result : goal.invariant_of-result
invariant_of-result g c = (
  c.requires.board,
  record { bounds = (arc_value c.args.ground).layout; server = c.args.to; sent = c.args.envelope },
  c.requires.sender,
  refl,
  reached_first
      (record { bounds = (arc_value c.args.ground).layout; server = c.args.to; sent = c.args.envelope }) c.requires.mode
      c.requires.hops,
)
