use Rattle.std.proofs.Common.{sym, subst, ◌∙◌}
use Rattle.core.specs.Mem.Slots.{slots_items}
use Rattle.sm_rule.specs.Bodies.{Keeps}
use Rattle.sm_rule.specs.Boards.{limits_of}
use Rattle.sm_rule.specs.Closing.{WasClosed}
use Rattle.sm_rule.specs.Views.{IsMet, informed}
use Rattle.sm_rule.proofs.Ending.{are_words, was_closed}
use Rattle.sm_rule.proofs.Keeping.{low_ceiling}
use Rattle.sm_rule.proofs.board.Board.close.Goals as goal

pub emptied-requires-clause-words : goal.emptied-requires-clause-words
emptied-requires-clause-words g c =
    let origin = c.self.inside.table.shared.key in
    let key = limits_of g.S.Service.limit origin.count origin.ceiling origin.bodies.value.items in
    are_words (Keeps g.S.Service.initial g.S.Service.next g.S.Service.base g.S.Service.before g.S.Service.requests)
    g.S.Service.limit key c.take_in.new.seat.id c.take_in.new.seat.me.0 (slots_items c.close_with.result.words)
    (slots_items c.close_with.result.slots)
    (low_ceiling c.self.inside.table.shared.key.ceiling c.self.inside.ceiling c.self.invariant.1 c.self.invariant.6)
    c.close_with.ensures.values.2

pub returns : goal.returns
returns g c =
    let origin = c.self.inside.table.shared.key in
    let key = limits_of g.S.Service.limit origin.count origin.ceiling origin.bodies.value.items in
    let met =
    subst (λ pass. IsMet pass.number pass.seen c.take_in.new.seat.me.0.seen) c.pass.view_is c.take_in.ensures.met in
    let many = c.emptied.ensures.length
    ∙ (c.close_with.ensures.counts.1 ∙ (sym c.self.invariant.3 ∙ sym c.self.invariant.0)) in
    let closed =
    was_closed (Keeps g.S.Service.initial g.S.Service.next g.S.Service.base g.S.Service.before g.S.Service.requests)
    g.S.Service.limit key c.take_in.new.seat.id c.take_in.new.seat.me.0 (slots_items c.close_with.result.words)
    (slots_items c.close_with.result.slots)
    (low_ceiling c.self.inside.table.shared.key.ceiling c.self.inside.ceiling c.self.invariant.1 c.self.invariant.6)
    c.close_with.ensures.values.2
    (informed c.chair.inside.seat.me.0 c.pass.inside.seat.me.0) c.args.pass c.take_in.ensures.seen c.chair.invariant.0.0
    c.chair.invariant.0.1 met c.chair.inside.seat.table_id c.emptied.result.items c.emptied.ensures.rows many in
    subst (λ value. WasClosed (Keeps g.S.Service.initial g.S.Service.next g.S.Service.base g.S.Service.before
    g.S.Service.requests) g.S.Service.limit value c.args.pass c.emptied.result.items) c.chair.view_is closed
