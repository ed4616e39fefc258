use Rattle.std.proofs.Common.{◌≡◌, true, refl, sym, ◌∙◌, subst}
use Rattle.sm_ownership.specs.declared.record.Record.{Record}
use Rattle.sm_ownership.specs.History.{after_done, all_of, first_of}
use Rattle.sm_word.specs.Word.{IsWellFormed, word_of}
use Rattle.sm_rule.specs.declared.admit_refusal.AdmitRefusal.{AdmitRefusal}
use Rattle.sm_rule.specs.Admissions.{RefusedBy}
use Rattle.sm_rule.specs.Bodies.{Keeps}
use Rattle.sm_rule.specs.Passes.{PassLooks, pass_value}
use Rattle.sm_rule.specs.Views.{all_held, first_held}
use Rattle.sm_rule.proofs.Bodies.{rests_at}
use Rattle.sm_rule.proofs.Seeing.{body_taken, end_read, held_taken, idle_read, next_read, pass_admitted, pass_raced}
use Rattle.sm_rule.proofs.Seeing.{pass_stays, slot_taken}
use Rattle.sm_rule.proofs.board.Board.enter_as.Goals as goal

pub exchange-requires-clause-formed : goal.exchange-requires-clause-formed
exchange-requires-clause-formed g c = λ _ _. (
  c.load-word.ensures.formed,
  next_read c.pass.inside.seat.me.0 c.pass.inside.server c.args.pass.now c.pass.inside.seat.table_id c.pass.view_is
      c.pass.invariant.0 c.args.self.now c.requires.board c.load-word.result.1 c.args.mode c.refusal_by.result
      c.refusal_by.ensures c.in-None.is c.load-word.ensures.low c.load-word.ensures.formed,
)

pub invariant_of-result : goal.invariant_of-result
invariant_of-result g c =
    subst (λ (state : Record). IsWellFormed (after_done state) × IsWellFormed state × (state.admitted ≡ true)
    × (c.admit_word-next.result ≡ word_of state)) (sym c.of-2.ensures) (
      end_read c.pass.inside.seat.me.0 c.pass.inside.server c.args.pass.now c.pass.inside.seat.table_id c.pass.view_is
          c.pass.invariant.0 c.args.self.now c.requires.board c.load-word.result.1 c.args.mode c.refusal_by.result
          c.refusal_by.ensures c.in-None.is c.load-word.ensures.low c.load-word.ensures.formed,
      next_read c.pass.inside.seat.me.0 c.pass.inside.server c.args.pass.now c.pass.inside.seat.table_id c.pass.view_is
          c.pass.invariant.0 c.args.self.now c.requires.board c.load-word.result.1 c.args.mode c.refusal_by.result
          c.refusal_by.ensures c.in-None.is c.load-word.ensures.low c.load-word.ensures.formed,
      refl,
      c.admit_word-next.ensures c.load-word.result.1 (idle_read c.pass.inside.seat.me.0 c.pass.inside.server
          c.args.pass.now
          c.pass.inside.seat.table_id c.pass.view_is c.pass.invariant.0 c.args.self.now c.requires.board
          c.load-word.result.1 c.args.mode c.refusal_by.result c.refusal_by.ensures c.in-None.is) (sym
          c.load-word.ensures.word),
    )

pub returns-clause-admitted : goal.returns-clause-admitted
returns-clause-admitted g c =
    pass_admitted c.pass.inside.seat.me.0 c.pass.inside.server c.args.pass.now c.pass.inside.seat.table_id
    c.pass.view_is c.pass.invariant.0 c.args.self.now c.requires.board c.load-word.result.1 c.args.mode
    c.refusal_by.result c.refusal_by.ensures c.in-None.is c.load-word.new.seat.me.0 c.exchange.new.seat.me.0
    g.B.Asks.kind
    c.args.k c.exchange.new.seat.table_id c.taken-body.new.seat.table_id c.taken-body.new.seat.me _ c.requires.kind
    c.load-word.ensures.seen c.in-Ok.ensures.made
    (c.exchange.ensures.table ∙ c.load-word.ensures.table) c.taken-body.ensures.table c.taken-body.ensures.slot

pub returns-in-Err-clause-refused : goal.returns-in-Err-clause-refused
returns-in-Err-clause-refused g c =
    let overtaken =
    pass_raced c.pass.inside.seat.me.0 c.pass.inside.server c.args.pass.now c.pass.inside.seat.table_id c.pass.view_is
    c.pass.invariant.0 c.args.self.now c.requires.board c.load-word.result.1 c.args.mode c.refusal_by.result
    c.refusal_by.ensures c.in-None.is c.load-word.new.seat.me.0 c.exchange.new.seat.me.0 c.exchange.new.seat.table_id
    c.args.k c.in-Err.found (c.exchange.ensures.table ∙ c.load-word.ensures.table) c.load-word.ensures.seen
    c.in-Err.ensures.lost c.load-word.ensures.state c.in-Err.ensures.found.0 c.in-Err.ensures.found.1 in
    let now = pass_value c.exchange.new.seat.table_id c.exchange.new.seat.me.0 in
    subst (λ (refusal : AdmitRefusal). PassLooks c.args.pass.now now
    × RefusedBy c.args.pass.now now c.args.k c.args.mode refusal) (sym c.raced.ensures) overtaken

pub taken-body-requires-clause-slot : goal.taken-body-requires-clause-slot
taken-body-requires-clause-slot g c = λ _ _.
    let slot = slot_taken c.pass.inside.seat.me.0 c.pass.inside.server c.args.pass.now c.pass.inside.seat.table_id
    c.pass.view_is c.pass.invariant.0 c.args.self.now c.requires.board c.load-word.result.1 c.args.mode
    c.refusal_by.result c.refusal_by.ensures c.in-None.is c.exchange.new.seat.me.0 (Keeps g.S.Service.initial
    g.S.Service.next g.S.Service.base g.S.Service.before g.S.Service.requests) g.S.Service.limit g.B.Asks.kind
    c.args.k c.pass.inside.seat.me.1 c.load-word.new.seat.me.1 c.exchange.new.seat.me.1 c.requires.kind
    c.requires.free c.pass.invariant.1 c.load-word.ensures.slots c.in-Ok.ensures.slots in
    (slot.0, slot.1)

pub returns-clause-body : goal.returns-clause-body
returns-clause-body g c =
    let is = body_taken c.pass.inside.seat.me.0 c.pass.inside.server c.args.pass.now c.pass.inside.seat.table_id
    c.pass.view_is c.pass.invariant.0 c.args.self.now c.requires.board c.load-word.result.1 c.args.mode
    c.refusal_by.result c.refusal_by.ensures c.in-None.is c.load-word.new.seat.me.0 c.exchange.new.seat.me.0
    (Keeps g.S.Service.initial g.S.Service.next g.S.Service.base g.S.Service.before g.S.Service.requests)
    g.S.Service.limit g.B.Asks.kind c.args.k c.pass.inside.seat.me.1 c.load-word.new.seat.me.1
    c.exchange.new.seat.me.1 _ c.taken-body.new.seat.me c.taken-body.result c.requires.kind c.requires.free
    c.pass.invariant.1 c.load-word.ensures.slots c.in-Ok.ensures.slots
    c.load-word.ensures.seen c.in-Ok.ensures.made c.taken-body.ensures.body c.taken-body.ensures.slot in
    is.0

pub returns-clause-kept : goal.returns-clause-kept
returns-clause-kept g c =
    let is = body_taken c.pass.inside.seat.me.0 c.pass.inside.server c.args.pass.now c.pass.inside.seat.table_id
    c.pass.view_is c.pass.invariant.0 c.args.self.now c.requires.board c.load-word.result.1 c.args.mode
    c.refusal_by.result c.refusal_by.ensures c.in-None.is c.load-word.new.seat.me.0 c.exchange.new.seat.me.0
    (Keeps g.S.Service.initial g.S.Service.next g.S.Service.base g.S.Service.before g.S.Service.requests)
    g.S.Service.limit g.B.Asks.kind c.args.k c.pass.inside.seat.me.1 c.load-word.new.seat.me.1
    c.exchange.new.seat.me.1 _ c.taken-body.new.seat.me c.taken-body.result c.requires.kind c.requires.free
    c.pass.invariant.1 c.load-word.ensures.slots c.in-Ok.ensures.slots
    c.load-word.ensures.seen c.in-Ok.ensures.made c.taken-body.ensures.body c.taken-body.ensures.slot in
    is.0.2

pub returns-clause-held : goal.returns-clause-held
returns-clause-held g c =
    let is = body_taken c.pass.inside.seat.me.0 c.pass.inside.server c.args.pass.now c.pass.inside.seat.table_id
    c.pass.view_is c.pass.invariant.0 c.args.self.now c.requires.board c.load-word.result.1 c.args.mode
    c.refusal_by.result c.refusal_by.ensures c.in-None.is c.load-word.new.seat.me.0 c.exchange.new.seat.me.0
    (Keeps g.S.Service.initial g.S.Service.next g.S.Service.base g.S.Service.before g.S.Service.requests)
    g.S.Service.limit g.B.Asks.kind c.args.k c.pass.inside.seat.me.1 c.load-word.new.seat.me.1
    c.exchange.new.seat.me.1 _ c.taken-body.new.seat.me c.taken-body.result c.requires.kind c.requires.free
    c.pass.invariant.1 c.load-word.ensures.slots c.in-Ok.ensures.slots
    c.load-word.ensures.seen c.in-Ok.ensures.made c.taken-body.ensures.body c.taken-body.ensures.slot in
    let held = held_taken c.pass.inside.seat.me.0 c.pass.inside.server c.args.pass.now c.pass.inside.seat.table_id
    c.pass.view_is c.pass.invariant.0 c.args.self.now c.requires.board c.load-word.result.1 c.args.mode
    c.refusal_by.result c.refusal_by.ensures c.in-None.is c.load-word.new.seat.me.0 c.exchange.new.seat.me.0
    g.B.Asks.kind
    c.args.k c.taken-body.new.seat.me _ c.requires.kind c.in-Ok.ensures.made c.taken-body.ensures.slot in
    let seen = c.taken-body.new.seat.me.0.seen in
    rests_at (Keeps g.S.Service.initial g.S.Service.next g.S.Service.base g.S.Service.before g.S.Service.requests)
    c.taken-body.result (first_of seen c.args.k) (first_held c.taken-body.new.seat.me.0.held) (all_of seen c.args.k)
    (all_held c.taken-body.new.seat.me.0.held) (sym held.0) (sym held.1) is.0

pub returns-clause-all : goal.returns-clause-all
returns-clause-all g c =
    let held = held_taken c.pass.inside.seat.me.0 c.pass.inside.server c.args.pass.now c.pass.inside.seat.table_id
    c.pass.view_is c.pass.invariant.0 c.args.self.now c.requires.board c.load-word.result.1 c.args.mode
    c.refusal_by.result c.refusal_by.ensures c.in-None.is c.load-word.new.seat.me.0 c.exchange.new.seat.me.0
    g.B.Asks.kind
    c.args.k c.taken-body.new.seat.me _ c.requires.kind c.in-Ok.ensures.made c.taken-body.ensures.slot in
    held.1

pub returns-clause-first : goal.returns-clause-first
returns-clause-first g c =
    let held = held_taken c.pass.inside.seat.me.0 c.pass.inside.server c.args.pass.now c.pass.inside.seat.table_id
    c.pass.view_is c.pass.invariant.0 c.args.self.now c.requires.board c.load-word.result.1 c.args.mode
    c.refusal_by.result c.refusal_by.ensures c.in-None.is c.load-word.new.seat.me.0 c.exchange.new.seat.me.0
    g.B.Asks.kind
    c.args.k c.taken-body.new.seat.me _ c.requires.kind c.in-Ok.ensures.made c.taken-body.ensures.slot in
    held.0

pub returns-clause-limit : goal.returns-clause-limit
returns-clause-limit g c =
    let is = body_taken c.pass.inside.seat.me.0 c.pass.inside.server c.args.pass.now c.pass.inside.seat.table_id
    c.pass.view_is c.pass.invariant.0 c.args.self.now c.requires.board c.load-word.result.1 c.args.mode
    c.refusal_by.result c.refusal_by.ensures c.in-None.is c.load-word.new.seat.me.0 c.exchange.new.seat.me.0
    (Keeps g.S.Service.initial g.S.Service.next g.S.Service.base g.S.Service.before g.S.Service.requests)
    g.S.Service.limit g.B.Asks.kind c.args.k c.pass.inside.seat.me.1 c.load-word.new.seat.me.1
    c.exchange.new.seat.me.1 _ c.taken-body.new.seat.me c.taken-body.result c.requires.kind c.requires.free
    c.pass.invariant.1 c.load-word.ensures.slots c.in-Ok.ensures.slots
    c.load-word.ensures.seen c.in-Ok.ensures.made c.taken-body.ensures.body c.taken-body.ensures.slot in
    is.1

pub admit_word-next-requires : goal.admit_word-next-requires
admit_word-next-requires g c = (
  c.load-word.result.1,
  c.load-word.ensures.formed,
  idle_read c.pass.inside.seat.me.0 c.pass.inside.server c.args.pass.now c.pass.inside.seat.table_id c.pass.view_is
      c.pass.invariant.0 c.args.self.now c.requires.board c.load-word.result.1 c.args.mode c.refusal_by.result
      c.refusal_by.ensures c.in-None.is,
  sym c.load-word.ensures.word,
)

pub exchange-requires-clause-words : goal.exchange-requires-clause-words
exchange-requires-clause-words g c = λ _ _. (
  c.load-word.ensures.word,
  c.admit_word-next.ensures c.load-word.result.1 (idle_read c.pass.inside.seat.me.0 c.pass.inside.server c.args.pass.now
      c.pass.inside.seat.table_id c.pass.view_is c.pass.invariant.0 c.args.self.now c.requires.board
      c.load-word.result.1 c.args.mode c.refusal_by.result c.refusal_by.ensures c.in-None.is) (sym
      c.load-word.ensures.word),
)

pub invariant_of-pass-2 : goal.invariant_of-pass-2
invariant_of-pass-2 g c =
    pass_stays c.pass.inside.seat.me.0 c.pass.inside.server c.args.pass.now c.pass.inside.seat.table_id c.pass.view_is
    c.pass.invariant.0 c.args.self.now c.requires.board c.load-word.result.1 c.args.mode c.refusal_by.result
    c.refusal_by.ensures c.in-None.is c.load-word.new.seat.me.0 c.exchange.new.seat.me.0 g.B.Asks.kind c.args.k
    c.taken-body.new.seat.me c.requires.kind c.load-word.ensures.seen c.in-Ok.ensures.made c.requires.shard
    c.taken-body.ensures.slot
