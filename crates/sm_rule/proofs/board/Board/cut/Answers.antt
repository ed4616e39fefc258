use Rattle.std.proofs.Common.{ap, ◌∙◌, arith}
use Rattle.sm_rule.specs.Boards.{limits_of}
use Rattle.sm_rule.proofs.Seeing.{same_table}
use Rattle.sm_rule.proofs.Splitting.{enrolls, splits}
use Rattle.sm_rule.proofs.board.Board.cut.Goals as goal

pub split_seat-new-requires : goal.split_seat-new-requires
split_seat-new-requires g c =
    let limits = limits_of g.S.Service.limit c.self.inside.count c.self.inside.ceiling
    c.self.inside.table.shared.key.bodies.value.items in
    let words = c.self.invariant.2 in
    let some = c.self.invariant.4 in (
      same_table c.self.inside.table.shared.table_id limits _ c.self.view_is _ c.requires.table,
      omega arith,
      splits _ _ _ _ _ c.requires.live,
    )

pub load-requires : goal.load-requires
load-requires g c =
    let limits = limits_of g.S.Service.limit c.self.inside.count c.self.inside.ceiling
    c.self.inside.table.shared.key.bodies.value.items in
    let words = c.self.invariant.2 in
    let some = c.self.invariant.4 in
    let half = c.split_seat-new.ensures in (
      half.3 ∙ same_table c.self.inside.table.shared.table_id limits _ c.self.view_is _ c.requires.table,
      omega arith,
      enrolls _ _ _ _ _ _ _ (ap (λ me. me.0.stage) half.4),
    )
