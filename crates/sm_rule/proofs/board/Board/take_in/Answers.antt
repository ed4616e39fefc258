use Rattle.std.proofs.Common.{◌∙◌, arith}
use Rattle.sm_rule.specs.Boards.{limits_of}
use Rattle.sm_rule.proofs.Meeting.{joins, meets, still_acts}
use Rattle.sm_rule.proofs.Seeing.{same_table}
use Rattle.sm_rule.proofs.board.Board.take_in.Goals as goal

pub join_seat-requires : goal.join_seat-requires
join_seat-requires g c =
    let limits = limits_of g.S.Service.limit c.self.inside.count c.self.inside.ceiling
    c.self.inside.table.shared.key.bodies.value.items in
    let words = c.self.invariant.2 in
    let some = c.self.invariant.4 in (
      same_table c.self.inside.table.shared.table_id limits _ c.self.view_is _ c.requires.table,
      same_table c.self.inside.table.shared.table_id limits _ c.self.view_is _ c.requires.other_table,
      c.requires.other_slots,
      omega arith,
      joins _ _ _ _ _ _ _ c.requires.live c.requires.other_live,
    )

pub load-requires : goal.load-requires
load-requires g c =
    let limits = limits_of g.S.Service.limit c.self.inside.count c.self.inside.ceiling
    c.self.inside.table.shared.key.bodies.value.items in
    let words = c.self.invariant.2 in
    let some = c.self.invariant.4 in (
      c.join_seat.ensures.0 ∙ same_table c.self.inside.table.shared.table_id limits _ c.self.view_is _ c.requires.table,
      omega arith,
      meets _ _ _ _ _ _ _ (still_acts c.join_seat.new.seat.me c.args.seat.now.me.0 c.args.other.me.0
          c.args.seat.now.me.1 c.join_seat.ensures.2 c.requires.live),
    )
