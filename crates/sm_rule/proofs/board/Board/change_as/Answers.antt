use Rattle.std.proofs.Common.{◌∙◌}
use Rattle.sm_rule.specs.Bodies.{Keeps}
use Rattle.sm_rule.specs.Changes.{record_at_chair}
use Rattle.sm_rule.proofs.Seeing.{allowed_to, below_board, chair_changes, chair_looks, chair_made, chair_raced}
use Rattle.sm_rule.proofs.Seeing.{formed_next, leads_read, looks_looks, may_make, room_stays}
use Rattle.sm_rule.proofs.board.Board.change_as.Goals as goal

pub changed-requires-clause-leads : goal.changed-requires-clause-leads
changed-requires-clause-leads g c = λ _ _.
    leads_read c.chair.inside.stands.items c.chair.inside.seat.me.0 c.load-word.new.seat.me.0 c.chair.invariant.0
    c.load-word.ensures.seen c.args.k c.load-word.result.1 c.args.change.now c.load-word.ensures.state
    c.chair.inside.seat.table_id c.args.chair.now c.args.stand.now c.chair.view_is c.requires.leads

pub changed-requires-clause-below : goal.changed-requires-clause-below
changed-requires-clause-below g c = λ _ _.
    below_board c.chair.inside.stands.items c.chair.inside.seat.me.0 c.load-word.new.seat.me.0 c.chair.invariant.0
    c.load-word.ensures.seen c.args.k c.load-word.result.1 c.args.change.now c.load-word.ensures.state
    c.chair.inside.seat.table_id c.args.chair.now c.chair.view_is (allowed_to (record_at_chair c.args.chair.now
    c.args.k).stand c.args.change.now c.args.stand.now c.requires.leads) c.args.self.now c.requires.board

pub pack-new-requires : goal.pack-new-requires
pack-new-requires g c =
    formed_next c.chair.inside.stands.items c.chair.inside.seat.me.0 c.load-word.new.seat.me.0 c.chair.invariant.0
    c.load-word.ensures.seen c.args.k c.load-word.result.1 c.args.change.now c.load-word.ensures.state
    c.chair.inside.seat.table_id c.args.chair.now c.chair.view_is (allowed_to
    (record_at_chair c.args.chair.now c.args.k).stand c.args.change.now c.args.stand.now c.requires.leads)
    c.in_ok-next.next c.args.self.now.limits.ceiling
    c.in_ok-next.ensures.next c.load-word.ensures.formed c.in_ok-next.ensures.known c.in_ok-next.ensures.idle
    c.in_ok-next.ensures.below c.load-word.ensures.low

pub exchange-requires-clause-formed : goal.exchange-requires-clause-formed
exchange-requires-clause-formed g c = λ _ _. (
  c.load-word.ensures.formed,
  formed_next c.chair.inside.stands.items c.chair.inside.seat.me.0 c.load-word.new.seat.me.0 c.chair.invariant.0
      c.load-word.ensures.seen c.args.k c.load-word.result.1 c.args.change.now c.load-word.ensures.state
      c.chair.inside.seat.table_id c.args.chair.now c.chair.view_is
      (allowed_to (record_at_chair c.args.chair.now c.args.k).stand c.args.change.now c.args.stand.now c.requires.leads)
      c.in_ok-next.next c.args.self.now.limits.ceiling
      c.in_ok-next.ensures.next c.load-word.ensures.formed c.in_ok-next.ensures.known c.in_ok-next.ensures.idle
      c.in_ok-next.ensures.below c.load-word.ensures.low,
)

pub exchange-requires-clause-may : goal.exchange-requires-clause-may
exchange-requires-clause-may g c = λ _ _.
    may_make c.chair.inside.stands.items c.chair.inside.seat.me.0 c.load-word.new.seat.me.0 c.chair.invariant.0
    c.load-word.ensures.seen c.args.k c.load-word.result.1 c.args.change.now c.load-word.ensures.state
    c.chair.inside.seat.table_id c.args.chair.now c.chair.view_is (allowed_to (record_at_chair c.args.chair.now
    c.args.k).stand c.args.change.now c.args.stand.now c.requires.leads) g.B.Asks.kind c.args.self.now
    c.requires.kind c.requires.board c.in_ok-next.ensures.known c.in_ok-next.ensures.idle c.in_ok-next.ensures.below

pub invariant_of-chair-in-Ok : goal.invariant_of-chair-in-Ok
invariant_of-chair-in-Ok g c =
    let made =
    chair_made (Keeps g.S.Service.initial g.S.Service.next g.S.Service.base g.S.Service.before g.S.Service.requests)
    g.S.Service.limit c.chair.inside.stands.items c.chair.inside.seat.me.0 c.load-word.new.seat.me.0
    c.exchange.new.seat.me.0 c.chair.inside.seat.table_id c.args.chair.now c.args.self.now g.B.Asks.kind
    c.args.change.now c.args.k c.index.result _
    c.in_ok-next.next c.chair.inside.seat.me.1 c.load-word.new.seat.me.1 c.exchange.new.seat.me.1 c.chair.invariant.0
    c.load-word.ensures.seen c.in-Ok.ensures.made c.requires.kind c.chair.view_is c.requires.board c.requires.shard
    c.index.ensures.value c.in-Ok.ensures.next c.in-Ok.ensures.slots
    c.load-word.ensures.slots c.chair.invariant.1 c.chair.invariant.3 in
    (made.0, made.1, c.chair.invariant.2, made.2)

pub invariant_of-chair : goal.invariant_of-chair
invariant_of-chair g c = (
  chair_looks c.chair.inside.stands.items c.chair.inside.seat.me.0 c.load-word.new.seat.me.0 c.chair.invariant.0
      c.load-word.ensures.seen,
  c.load-word.ensures.slots ∙ c.chair.invariant.1,
  c.chair.invariant.2,
  room_stays c.chair.inside.seat.me.0 c.load-word.new.seat.me.0 c.load-word.ensures.seen _ c.chair.invariant.3,
)

pub invariant_of-chair-in-Err : goal.invariant_of-chair-in-Err
invariant_of-chair-in-Err g c = (
  chair_looks c.chair.inside.stands.items c.chair.inside.seat.me.0 c.exchange.new.seat.me.0 c.chair.invariant.0
      (looks_looks c.chair.inside.seat.me.0 c.load-word.new.seat.me.0 c.exchange.new.seat.me.0 c.load-word.ensures.seen
      c.in-Err.ensures.lost),
  c.in-Err.ensures.unchanged ∙ (c.load-word.ensures.slots ∙ c.chair.invariant.1),
  c.chair.invariant.2,
  room_stays c.chair.inside.seat.me.0 c.exchange.new.seat.me.0
      (looks_looks c.chair.inside.seat.me.0 c.load-word.new.seat.me.0 c.exchange.new.seat.me.0 c.load-word.ensures.seen
      c.in-Err.ensures.lost) _ c.chair.invariant.3,
)

pub returns-in-Ok-clause-made : goal.returns-in-Ok-clause-made
returns-in-Ok-clause-made g c =
    chair_changes c.chair.inside.seat.me.0 c.load-word.new.seat.me.0 c.exchange.new.seat.me.0 c.args.chair.now
    c.chair.inside.seat.table_id c.exchange.new.seat.table_id c.chair.view_is
    (c.exchange.ensures.table ∙ c.load-word.ensures.table) c.chair.invariant.0.1 c.load-word.ensures.seen c.args.k
    g.B.Asks.kind c.args.change.now c.requires.kind c.in-Ok.ensures.made

pub returns-in-Err-clause-refused : goal.returns-in-Err-clause-refused
returns-in-Err-clause-refused g c =
    chair_raced c.chair.inside.seat.me.0 c.load-word.new.seat.me.0 c.exchange.new.seat.me.0 c.args.chair.now
    c.chair.inside.seat.table_id c.exchange.new.seat.table_id c.chair.view_is
    (c.exchange.ensures.table ∙ c.load-word.ensures.table) c.chair.invariant.0.1 c.load-word.ensures.seen c.args.k
    c.load-word.result.1 c.in-Err.found c.args.self.now
    c.in-Err.ensures.lost c.load-word.ensures.state c.in-Err.ensures.found.0 c.in-Err.ensures.found.1
    c.in_ok-next.ensures.idle c.requires.board c.in_ok-next.ensures.below
