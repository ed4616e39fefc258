use Rattle.std.proofs.Common.{None, [], refl, arith}
use Rattle.sm_rule.specs.Boards.{limits_of}
use Rattle.sm_rule.specs.Views.{newcomer}
use Rattle.sm_rule.proofs.Keeping.{enters}
use Rattle.sm_rule.proofs.board.Board.pass_as.Goals as goal

pub load_new_seat-seat-requires : goal.load_new_seat-seat-requires
load_new_seat-seat-requires g c =
    let words = c.self.invariant.2 in
    let some = c.self.invariant.4 in
    let origin = c.self.inside.table.shared.key in
    let key = limits_of g.S.Service.limit origin.count origin.ceiling origin.bodies.value.items in
    (omega arith, enters _ _ key _ _ _ (newcomer key 0 None [], []) refl)
