use Rattle.std.proofs.Common.{◌≡◌, ◌∷◌, sym, ap, ◌∙◌, subst, arith}
use Rattle.std.specs.Prelude.{Some}
use mathlib.Core.Option.{none}
use Rattle.atomic_table.specs.Seated.{TableId}
use Rattle.atomic_table.specs.Table.{Allows, rest, step}
use Rattle.sm_ownership.specs.declared.entry.Kind.TheVariants.{Done}
use Rattle.sm_ownership.specs.History.{after_done}
use Rattle.sm_word.specs.Word.{word_of}
use Rattle.sm_rule.specs.Boards.{limit_at, limits_of}
use Rattle.sm_rule.specs.Bodies.{Keeps}
use Rattle.sm_rule.specs.Rule.{Rule}
use Rattle.sm_rule.specs.Steps.{Stored}
use Rattle.sm_rule.specs.Views.{EndsWith}
use Rattle.sm_rule.proofs.Bodies.{ending_is}
use Rattle.sm_rule.proofs.Finishing.{ended_adds, ended_all, ended_body}
use Rattle.sm_rule.proofs.Keeping.{bounds, carries_body, held_within, low_ceiling, slot_held, store_allowed}
use Rattle.sm_rule.proofs.board.Board.finish_as.Goals as goal

pub store-requires : goal.store-requires
store-requires g c =
    let board = c.requires.board ∙ sym c.self.view_is in
    let view = c.pass.inside.seat.me.0 in
    let of_pass = c.pass.view_is in
    let id = c.pass.inside.seat.table_id in
    let shard = ap (λ p. p.shard) c.permit.view_is in
    let state = ap (λ p. p.state) c.permit.view_is in
    let body = ap (λ p. p.body) c.permit.view_is in
    let within = held_within id view c.args.pass.now c.args.permit of_pass c.requires.permit c.pass.invariant.0.3 in
    let at = c.index-at.ensures.value in
    let words = c.self.invariant.2 in
    let same = ap (λ p. p.board.limits.count) of_pass ∙ ap (λ b. b.limits.count) board in
    let slots = c.pass.invariant.1 ∙ slot_held id view c.args.pass.now c.args.permit of_pass c.requires.permit in
    let out = c.exchange.ensures in
    let carries = carries_body c.exchange.new.seat.me view _ c.index-at.result _ c.permit.inside.body out.3 slots in
    let origin = c.self.inside.table.shared.key in
    let key = limits_of g.S.Service.limit origin.count origin.ceiling origin.bodies.value.items in
    let at_key =
    (λ i. limits_of g.S.Service.limit (c.self.invariant.0 i) (c.self.invariant.1 i) origin.bodies.value.items)
    ∙ ap (λ b. b.limits) c.self.view_is in
    let same_limit : g.S.Service.limit c.permit.inside.body ≡ limit_at key c.index-at.result =
    ap g.S.Service.limit body ∙ (c.requires.limit ∙ λ i. limit_at (sym at_key i) ((sym shard ∙ sym at) i)) in
    let keeps = (Keeps g.S.Service.initial g.S.Service.next g.S.Service.base g.S.Service.before g.S.Service.requests) in
    let ending = c.requires.body.0 in
    let gains : EndsWith keeps c.args.pass.now.held c.permit.inside.body ending =
    subst (λ one. EndsWith keeps c.args.pass.now.held one ending) (sym body) c.requires.body.1 in
    let allowed = store_allowed id view c.args.pass.now c.args.permit of_pass c.requires.permit keeps g.S.Service.limit
    key c.self.inside.table.shared.table_id.slots c.exchange.new.seat.id c.index-at.result c.done_word-word.result
    c.permit.inside.body c.exchange.new.seat.me ending
    carries (low_ceiling c.self.inside.table.shared.key.ceiling c.self.inside.ceiling c.self.invariant.1
    c.self.invariant.6) c.pass.invariant.0.0 (sym shard ∙ sym at)
    (c.done_word-word.ensures c.permit.inside.state.value c.permit.invariant.2 (sym c.permit.invariant.3)
    ∙ ap (λ one. word_of (after_done one)) state) gains same_limit in
    let small = bounds id view c.args.pass.now c.args.permit of_pass c.requires.permit c.pass.invariant.0.3 in
    let kind =
    c.requires.kind ∙ ap Done (ending_is g.S.Service.initial g.S.Service.next g.S.Service.base g.S.Service.before
    g.S.Service.requests c.args.pass.now.held c.args.permit.body ending small.0 c.requires.body.1) in (
      ◌∙◌ {A = TableId} {a = c.exchange.new.seat.table_id} out.0 (ap (λ p. p.board.id) of_pass ∙ ap (λ b. b.id) board),
      omega arith,
      subst (λ one. Allows (Rule keeps g.S.Service.limit key) c.self.inside.table.shared.table_id.slots
          c.exchange.new.seat.id c.exchange.new.seat.me c.index-at.result (λ _. c.done_word-word.result)
          (λ _. Stored one (step c.self.inside.table.shared.table_id.slots c.index-at.result c.done_word-word.result 0
          none) c.exchange.new.seat.me c.done_word-word.result)) (sym kind) allowed,
    )

pub returns-clause-done : goal.returns-clause-done
returns-clause-done g c = λ ending ends.
    let shard = ap (λ p. p.shard) c.permit.view_is in
    let small = bounds c.pass.inside.seat.table_id c.pass.inside.seat.me.0 c.args.pass.now c.args.permit c.pass.view_is
    c.requires.permit c.pass.invariant.0.3 in
    let kind = c.requires.kind ∙ ap Done (ending_is g.S.Service.initial g.S.Service.next g.S.Service.base
    g.S.Service.before g.S.Service.requests c.args.pass.now.held c.args.permit.body ending small.0 ends) in
    ended_adds c.args.pass.now c.pass.inside.seat.table_id c.pass.inside.seat.me.0 c.store.new.seat.me.0
    c.exchange.new.seat.me ((c.index-at.result, Some c.permit.inside.body) ∷ rest c.pass.inside.seat.me.1)
    c.args.permit.shard c.index-at.result g.B.Asks.kind ending c.pass.view_is c.exchange.ensures.3
    (c.index-at.ensures.value ∙ shard) kind c.store.new.seat.table_id
    (c.store.ensures.0 ∙ c.exchange.ensures.0) c.store.ensures.2.0

pub returns-clause-all : goal.returns-clause-all
returns-clause-all g c = λ ending ends.
    let shard = ap (λ p. p.shard) c.permit.view_is in
    let small = bounds c.pass.inside.seat.table_id c.pass.inside.seat.me.0 c.args.pass.now c.args.permit c.pass.view_is
    c.requires.permit c.pass.invariant.0.3 in
    let kind = c.requires.kind ∙ ap Done (ending_is g.S.Service.initial g.S.Service.next g.S.Service.base
    g.S.Service.before g.S.Service.requests c.args.pass.now.held c.args.permit.body ending small.0 ends) in
    ended_all c.args.pass.now c.pass.inside.seat.table_id c.pass.inside.seat.me.0 c.store.new.seat.me.0
    c.exchange.new.seat.me ((c.index-at.result, Some c.permit.inside.body) ∷ rest c.pass.inside.seat.me.1)
    c.args.permit.shard c.index-at.result g.B.Asks.kind ending c.pass.view_is c.exchange.ensures.3
    (c.index-at.ensures.value ∙ shard) kind c.store.ensures.2.2

pub returns-clause-body : goal.returns-clause-body
returns-clause-body g c =
    let shard = ap (λ p. p.shard) c.permit.view_is in
    let small = bounds c.pass.inside.seat.table_id c.pass.inside.seat.me.0 c.args.pass.now c.args.permit c.pass.view_is
    c.requires.permit c.pass.invariant.0.3 in
    let kind =
    c.requires.kind ∙ ap Done (ending_is g.S.Service.initial g.S.Service.next g.S.Service.base g.S.Service.before
    g.S.Service.requests c.args.pass.now.held c.args.permit.body c.requires.body.0 small.0 c.requires.body.1) in
    ended_body c.args.pass.now c.pass.inside.seat.table_id c.pass.inside.seat.me.0 c.store.new.seat.me.0
    c.exchange.new.seat.me ((c.index-at.result, Some c.permit.inside.body) ∷ rest c.pass.inside.seat.me.1)
    c.args.permit.shard c.index-at.result g.B.Asks.kind c.requires.body.0 c.pass.view_is c.exchange.ensures.3
    (c.index-at.ensures.value ∙ shard) kind c.store.ensures.2.2 c.store.ensures.2.3
    (Keeps g.S.Service.initial g.S.Service.next g.S.Service.base g.S.Service.before g.S.Service.requests)
    c.args.permit.body c.requires.body.1

pub returns-clause-kept : goal.returns-clause-kept
returns-clause-kept g c =
    let shard = ap (λ p. p.shard) c.permit.view_is in
    let small = bounds c.pass.inside.seat.table_id c.pass.inside.seat.me.0 c.args.pass.now c.args.permit c.pass.view_is
    c.requires.permit c.pass.invariant.0.3 in
    let kind =
    c.requires.kind ∙ ap Done (ending_is g.S.Service.initial g.S.Service.next g.S.Service.base g.S.Service.before
    g.S.Service.requests c.args.pass.now.held c.args.permit.body c.requires.body.0 small.0 c.requires.body.1) in
    let rests = ended_body c.args.pass.now c.pass.inside.seat.table_id c.pass.inside.seat.me.0 c.store.new.seat.me.0
    c.exchange.new.seat.me ((c.index-at.result, Some c.permit.inside.body) ∷ rest c.pass.inside.seat.me.1)
    c.args.permit.shard c.index-at.result g.B.Asks.kind c.requires.body.0 c.pass.view_is c.exchange.ensures.3
    (c.index-at.ensures.value ∙ shard) kind c.store.ensures.2.2 c.store.ensures.2.3
    (Keeps g.S.Service.initial g.S.Service.next g.S.Service.base g.S.Service.before g.S.Service.requests)
    c.args.permit.body c.requires.body.1 in
    sym rests.2
