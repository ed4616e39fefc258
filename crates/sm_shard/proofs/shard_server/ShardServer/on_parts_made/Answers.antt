use Rattle.sm_shard.proofs.ShardServers.{known_of, some_of, written_known}
use Rattle.sm_shard.specs.declared.shard_state.ShardState.{ShardState}
use Rattle.sm_shard.specs.ShardServers.{AreWritten}
use Rattle.sm_shard.proofs.shard_server.ShardServer.on_parts_made.Goals as goal

pub returns-in-Some-clause-known : goal.returns-in-Some-clause-known
returns-in-Some-clause-known g c = λ log known made.
    let service = g.M.StoreMachine.service in
    let me = c.args.self.now.me in
    let shard = c.args.self.now.shard in
    let ready = c.in-Some.ready in
    written_known service log me shard ready c.write_base.new.ready c.write_base.ensures.rest c.write_base.ensures.work
    (known_of service log me shard c.args.self.now.ready ready c.in-Some.is known)
    (some_of (λ (r : ShardState g.row.M.Denot g.row.Q.Denot g.row.R.Denot). AreWritten log shard r)
    c.args.self.now.ready ready c.in-Some.is made)
