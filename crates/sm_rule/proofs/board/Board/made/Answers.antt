use Rattle.std.proofs.Common.{◌≡◌, ap, length, ◌∙◌, arith}
use Rattle.std.specs.Prelude.{map}
use Rattle.sm_rule.specs.Bodies.{Keeps}
use Rattle.sm_rule.specs.Boards.{limits_of}
use Rattle.sm_rule.proofs.Bodies.{all_new}
use Rattle.sm_rule.proofs.Keeping.{begins}
use Rattle.sm_rule.proofs.board.Board.made.Goals as goal

pub new-requires : goal.new-requires
new-requires g c =
    let bodies = c.args.bodies.ok.0 in
    let len = c.len-count.ensures in
    let many : c.len-count.result ≡ length c.args.bodies.items = omega arith in
    begins (Keeps g.S.Service.initial g.S.Service.next g.S.Service.base g.S.Service.before g.S.Service.requests)
    g.S.Service.limit (limits_of g.S.Service.limit c.len-count.result c.args.ceiling c.of.result.value.items)
    c.as_slice.result.now c.args.bodies.items c.in_ok-slots.slots.items
    (c.as_slice.ensures.value ∙ c.in_ok-words.ensures) many
    (ap (λ bodies. map g.S.Service.limit bodies.items) c.of.ensures) c.in_ok-slots.ensures
    (all_new g.S.Service.initial g.S.Service.next g.S.Service.base g.S.Service.before g.S.Service.requests
    c.args.bodies.items c.requires.initial c.requires.before c.requires.empty)
