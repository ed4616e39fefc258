use Rattle.std.proofs.Common.{sym, ◌∙◌}
use Rattle.sm_shard.proofs.ShardServers.{clearing_may, known_of}
use Rattle.sm_shard.proofs.shard_server.ShardServer.is_behind.Goals as goal

pub returns-in-Some-clause-may : goal.returns-in-Some-clause-may
returns-in-Some-clause-may g c = λ yes charter log known.
    let service = g.M.StoreMachine.service in
    let me = c.args.self.now.me in
    let shard = c.args.self.now.shard in
    let ready = c.in-Some.ready in
    clearing_may service charter log me shard ready c.args.key.now
    (known_of service log me shard c.args.self.now.ready ready c.in-Some.is known)
    (sym c.is_behind.ensures ∙ yes)
