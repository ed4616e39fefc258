use Rattle.std.proofs.Common.{ap}
use Rattle.std.specs.Global.{Vec}
use Rattle.sm_store.specs.declared.item.Item.{Item}
use Rattle.sm_shard.proofs.ShardServers.{begun_known, known_of}
use Rattle.sm_shard.proofs.Refused.{as_ready}
use Rattle.sm_shard.proofs.shard_server.ShardServer.begin_base.Goals as goal

pub returns-in-Some-clause-known : goal.returns-in-Some-clause-known
returns-in-Some-clause-known g c = λ log known.
    let service = g.M.StoreMachine.service in
    let me = c.args.self.now.me in
    let shard = c.args.self.now.shard in
    let ready = c.in-Some.ready in
    let done = c.begin_base.ensures in
    begun_known service log me shard ready c.begin_base.new.ready c.begin_base.result done.rest done.exact done.begun
    done.same done.err (known_of service log me shard c.args.self.now.ready ready c.in-Some.is known)

pub returns-in-Some-clause-refused : goal.returns-in-Some-clause-refused
returns-in-Some-clause-refused g c =
    let done = c.begin_base.ensures in
    let rest = done.rest in
    as_ready c.args.self.now.ready c.in-Some.ready c.begin_base.new.ready c.begin_base.result c.in-Some.is
    (λ work. record {
      state = rest.state;
      stood = rest.stood;
      replica = rest.replica;
      head = rest.head;
      logged = rest.logged;
      sent = ap (λ (v : Vec (Item g.row.Q.Denot)). v.items) rest.sent;
      waiting = ap (λ (v : Vec (Item g.row.Q.Denot)). v.items) rest.waiting;
      carried = ap (λ (v : Vec (Item g.row.Q.Denot)). v.items) rest.carried;
      asking = ap (λ (v : Vec (Item g.row.Q.Denot)). v.items) rest.asking;
      work = work;
      decides = rest.decides;
    })
    done.err
