use Rattle.std.proofs.Common.{rules, ◌∙◌}
use Rattle.sm_rule.proofs.Seeing.{chair_looks, room_stays}
use Rattle.sm_rule.proofs.board.Board.look_chair.Goals as goal

pub invariant_of-chair : goal.invariant_of-chair
invariant_of-chair g c = (
  chair_looks c.chair.inside.stands.items c.chair.inside.seat.me.0 c.load.new.seat.me.0 c.chair.invariant.0
      c.load.ensures.seen,
  c.load.ensures.slots ∙ c.chair.invariant.1,
  c.chair.invariant.2,
  room_stays c.chair.inside.seat.me.0 c.load.new.seat.me.0 c.load.ensures.seen _ c.chair.invariant.3,
)

pub returns-clause-state : goal.returns-clause-state
returns-clause-state g c = search rules
