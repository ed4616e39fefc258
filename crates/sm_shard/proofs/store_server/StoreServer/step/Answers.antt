use Rattle.sm_shard.proofs.StoreServers.{stepped, still_shards}
use Rattle.sm_shard.proofs.store_server.StoreServer.step.Goals as goal

pub returns-clause-step : goal.returns-clause-step
returns-clause-step g c = λ within.
    let done = c.step.ensures in
    stepped g.M.StoreMachine.service g.M.StoreMachine.size c.args.self.now.servers.items
    c.args.shard c.index-2.result
    c.index_mut-server.result.now c.step.new.server c.args.input c.step.result c.index-2.ensures.value within
    c.index_mut-server.ensures.value done.exact done.call done.asked_for done.caught_up done.refused done.me done.shard
    done.count done.limits

pub returns-clause-shards : goal.returns-clause-shards
returns-clause-shards g c = λ me count are.
    let done = c.step.ensures in
    still_shards me count count c.args.self.now.servers.items c.index-2.result c.index_mut-server.result.now
    c.step.new.server c.index_mut-server.ensures.value done.me done.shard done.count are
