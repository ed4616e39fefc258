use Rattle.std.proofs.Common.{◌≡◌, ◌∙◌, length}
use Rattle.sm_shard.proofs.StoreServers.{one_more}
use Rattle.sm_shard.proofs.store_server.StoreServer.new.Goals as goal

pub loop-preserved : goal.loop-preserved
loop-preserved g c =
    let made = c.in-Some-new.ensures.values in
    let place : c.in-Some.shard ≡ length c.loop.servers.items =
    c.in-Some.ensures.value ∙ (c.len.ensures ∙ c.loop.servers.ok.0) in
    one_more c.args.me c.args.count c.loop.counter c.loop.servers.items c.push.new.self.items c.in-Some-new.server
    c.in_ok-push.ensures.items made.0 (made.1 ∙ place) made.2 c.loop.invariant
