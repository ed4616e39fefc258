use Rattle.std.proofs.Common.{◌≡◌, ◌≤◌, ◌∙◌, List, ap, length, subst, sym}
use Rattle.std.specs.Prelude.{IfSome, Option}
use Rattle.std.specs.Global.{Vec}
use Rattle.std.specs.List.{AllByRecursion}
use Rattle.sm_store.specs.declared.item.Item.{Item}
use Rattle.sm_store.specs.System.{MayClaim}
use Rattle.sm_shard.specs.Bases.{kept_from}
use Rattle.sm_shard.specs.Decisions.{decision_of}
use Rattle.sm_shard.specs.declared.shard_state.Decision.{Decision}
use Rattle.sm_shard.specs.declared.shard_state.Decision.TheVariants.{TooManyClients}
use Rattle.sm_shard.specs.declared.shard_state.ShardState.{ShardState}
use Rattle.sm_shard.specs.ShardServers.{AreRequestsAskedOf, HasRead, IsDecided, IsShardState, IsTrueOf}
use Rattle.sm_shard.specs.ShardServers.{StoreSystem, claimed_by}
use Rattle.sm_shard.proofs.Crowds.{crowded_if_full}
use Rattle.sm_shard.proofs.ShardServers.{ok_map, some_of, decided_so, known_of, knows_same, request_taken, same_base}
use Rattle.sm_shard.proofs.Refused.{as_ready}
use Rattle.sm_shard.proofs.shard_server.ShardServer.on_request.Goals as goal

pub returns-then-ready-clause-told : goal.returns-then-ready-clause-told
returns-then-ready-clause-told g c =
    let service = g.M.StoreMachine.service in
    let me = c.args.self.now.me in
    let shard = c.args.self.now.shard in
    let ready = c.in-Some.ready in
    ok_map
    (λ (decision : Decision g.row.R.Denot). (before : List (Item g.row.Q.Denot))
    → IsShardState service me before ready → IsDecided service ready.state me before
    c.args.item.client c.args.item.number decision)
    (λ (decision : Decision g.row.R.Denot). (system : StoreSystem g.row.Q.Denot g.row.R.Denot)
    → IsTrueOf service system.log c.args.self.now
    → AllByRecursion (MayClaim service system) (claimed_by shard c.args.item decision))
    c.take.result
    (λ decision decided system known.
    let knows = some_of (λ (r : ShardState g.row.M.Denot g.row.Q.Denot g.row.R.Denot). HasRead service
    system.log me shard r) c.args.self.now.ready ready c.in-Some.is known in
    decided_so service shard me system ready.state (record { head = ready.head; items = knows.before })
    ready.logged c.args.item knows.logged decision (decided knows.before knows.is))
    c.take.ensures.decided

pub returns-then-ready-clause-known : goal.returns-then-ready-clause-known
returns-then-ready-clause-known g c = λ log known.
    let service = g.M.StoreMachine.service in
    let shard = c.args.self.now.shard in
    let ready = c.in-Some.ready in
    let new = c.take.new.ready in
    let done = c.take.ensures in
    knows_same service log c.args.self.now.me shard ready new done.state done.stood done.head done.logged done.kept
    (same_base service log shard ready new done.head done.work)
    (known_of service log c.args.self.now.me shard c.args.self.now.ready ready c.in-Some.is known)

pub returns-then-ready-clause-crowded : goal.returns-then-ready-clause-crowded
returns-then-ready-clause-crowded g c =
    let self = c.args.self.now in
    let item = c.args.item in
    let size = g.M.StoreMachine.size in
    ok_map
    (λ (decision : Decision g.row.R.Denot). decision ≡ decision_of self.limits size c.in-Some.ready self.me item)
    (λ (decision : Decision g.row.R.Denot). decision ≡ TooManyClients → IfSome self.ready (λ ready.
    self.limits.clients ≤ length (kept_from item.forgets ready.replica.lasts.entries)))
    c.take.result
    (λ decision is crowded.
    subst (λ (o : Option (ShardState g.row.M.Denot g.row.Q.Denot g.row.R.Denot)). IfSome o (λ ready.
    self.limits.clients ≤ length (kept_from item.forgets ready.replica.lasts.entries)))
    (sym c.in-Some.is) (crowded_if_full self.limits size c.in-Some.ready self.me item (sym is ∙ crowded)))
    c.take.ensures.decision

pub returns-then-ready-clause-asked_for : goal.returns-then-ready-clause-asked_for
returns-then-ready-clause-asked_for g c = λ asked all one.
    let shard = c.args.self.now.shard in
    let done = c.take.ensures in
    request_taken g.M.StoreMachine.service asked shard c.args.self.now.me c.args.self.now.limits
    g.M.StoreMachine.size c.in-Some.ready c.take.new.ready c.args.item c.take.result done.sent done.waiting done.err
    (subst (λ (o : Option (ShardState g.row.M.Denot g.row.Q.Denot g.row.R.Denot)). IfSome o (λ ready.
    AreRequestsAskedOf asked shard ready)) c.in-Some.is all) one

pub returns-then-ready-clause-refused : goal.returns-then-ready-clause-refused
returns-then-ready-clause-refused g c =
    let done = c.take.ensures in
    as_ready c.args.self.now.ready c.in-Some.ready c.take.new.ready c.take.result c.in-Some.is
    (λ waiting. record {
      state = done.state;
      stood = done.stood;
      replica = done.replica;
      head = done.head;
      logged = done.logged;
      sent = ap (λ (v : Vec (Item g.row.Q.Denot)). v.items) done.sent;
      waiting = waiting;
      carried = ap (λ (v : Vec (Item g.row.Q.Denot)). v.items) done.carried;
      asking = ap (λ (v : Vec (Item g.row.Q.Denot)). v.items) done.asking;
      work = done.work;
      decides = done.decides;
    })
    done.err
