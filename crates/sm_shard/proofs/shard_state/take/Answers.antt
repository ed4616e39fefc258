use Rattle.std.proofs.Common.{refl, sym, ◌∙◌, ap}
use Rattle.sm_store.specs.Clients.{last_of}
use Rattle.sm_shard.proofs.ShardServers.{floor_below, ready_push, unnumbered}
use Rattle.sm_shard.proofs.shard_state.take.Goals as goal

pub returns-in-Some-clause-decided : goal.returns-in-Some-clause-decided
returns-in-Some-clause-decided g c = λ before ready. c.in-Some.ensures.known c.args.ready.now.state c.args.me before
    ready.replica

pub returns-clause-kept : goal.returns-clause-kept
returns-clause-kept g c = λ before ready.
    ready_push g.M.StoreMachine.service c.args.me before c.args.item
    c.args.ready.now
    (record {
      state = c.args.ready.now.state;
      stood = c.args.ready.now.stood;
      replica = c.args.ready.now.replica;
      head = c.args.ready.now.head;
      logged = c.args.ready.now.logged;
      sent = c.args.ready.now.sent;
      waiting = c.push.new.self;
      carried = c.args.ready.now.carried;
      asking = c.args.ready.now.asking;
      work = c.args.ready.now.work;
      decides = c.args.ready.now.decides;
    })
    refl refl refl c.in_ok-push.ensures.items
    (sym c.accepts.ensures ∙ c.if-not-accepts.false)
    (ap (last_of c.args.item.client) (sym c.deref.ensures.value)
    ∙ unnumbered {R = g.row.R.Denot} c.args.item.number c.client_number.result c.in_default-repeated.ensures
    c.client_number.ensures.none)
    (ap (last_of c.args.item.client) (sym c.deref-2.ensures.value)
    ∙ unnumbered {R = g.row.R.Denot} c.args.item.number c.client_number-2.result c.in_default-repeated-2.ensures
    c.client_number-2.ensures.none)
    (floor_below c.args.item.client c.floor_among.result c.args.ready.now.sent.items c.deref-3.result.now
    c.floor_among.ensures c.deref-3.ensures.value c.if-item-floor_among.false)
    (floor_below c.args.item.client c.floor_among-2.result c.args.ready.now.waiting.items c.deref-4.result.now
    c.floor_among-2.ensures c.deref-4.ensures.value c.if-item-floor_among-2.false)
    (c.in_default.ensures.next before)
    ready
