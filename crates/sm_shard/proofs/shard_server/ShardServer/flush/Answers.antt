use Rattle.std.specs.Prelude.{IsTrue}
use Rattle.std.proofs.Common.{ℕ, Bool, length}
use Rattle.sm_shard.specs.declared.shard_state.ShardState.{ShardState}
use Rattle.sm_shard.specs.ShardServers.{AreAsked, AreAskedOf, AreRequestsAskedOf, IsFlushed, StoreSystem}
use Rattle.sm_shard.specs.Steps.{ArePast}
use Rattle.sm_shard.proofs.ShardServers.{asked_flushed, known_of, knows_same, ok_map, requests_flushed, some_of}
use Rattle.sm_shard.proofs.Refused.{as_ready}
use Rattle.sm_shard.proofs.shard_server.ShardServer.flush.Goals as goal

pub returns-in-Some-clause-known : goal.returns-in-Some-clause-known
returns-in-Some-clause-known g c = λ log known.
    let service = g.M.StoreMachine.service in
    let me = c.args.self.now.me in
    let shard = c.args.self.now.shard in
    knows_same service log me shard c.in-Some.ready c.flush.new.ready c.flush.ensures.state
    c.flush.ensures.stood c.flush.ensures.head c.flush.ensures.logged (c.flush.ensures.kept me)
    (c.flush.ensures.base log shard)
    (known_of service log me shard c.args.self.now.ready c.in-Some.ready c.in-Some.is known)

pub returns-in-Some-clause-sends : goal.returns-in-Some-clause-sends
returns-in-Some-clause-sends g c =
    let service = g.M.StoreMachine.service in
    let size = g.M.StoreMachine.size in
    let shard = c.args.self.now.shard in
    let limits = c.args.self.now.limits in
    let ready = c.in-Some.ready in
    let new = c.flush.new.ready in
    ok_map (λ (sends : Bool). IsTrue sends → IsFlushed limits size ready new)
    (λ (sends : Bool). IsTrue sends → (system : StoreSystem g.row.Q.Denot g.row.R.Denot) (since : ℕ)
    → ArePast system → AreAsked system.asked since c.args.self.now
    → AreAskedOf system.asked (length system.log) shard new)
    c.flush.result
    (λ sends flush yes system since past asked.
    asked_flushed service limits size system since shard ready new past (flush yes)
    (some_of (λ (r : ShardState g.row.M.Denot g.row.Q.Denot g.row.R.Denot). AreAskedOf system.asked since shard r)
    c.args.self.now.ready ready c.in-Some.is asked))
    c.flush.ensures.sends

pub returns-in-Some-clause-asked_for : goal.returns-in-Some-clause-asked_for
returns-in-Some-clause-asked_for g c = λ asked all.
    let shard = c.args.self.now.shard in
    let ready = c.in-Some.ready in
    let done = c.flush.ensures in
    requests_flushed g.M.StoreMachine.service c.args.self.now.limits g.M.StoreMachine.size asked shard ready
    c.flush.new.ready c.flush.result done.sends done.waits done.err
    (some_of (λ (r : ShardState g.row.M.Denot g.row.Q.Denot g.row.R.Denot). AreRequestsAskedOf asked shard r)
    c.args.self.now.ready ready c.in-Some.is all)

pub returns-in-Some-clause-refused : goal.returns-in-Some-clause-refused
returns-in-Some-clause-refused g c =
    let done = c.flush.ensures in
    as_ready c.args.self.now.ready c.in-Some.ready c.flush.new.ready c.flush.result c.in-Some.is
    (λ same. record {
      state = done.state;
      stood = done.stood;
      replica = done.replica;
      head = done.head;
      logged = done.logged;
      sent = same.sent;
      waiting = same.waiting;
      carried = same.carried;
      asking = same.asking;
      work = same.work;
      decides = done.decides;
    })
    done.err
