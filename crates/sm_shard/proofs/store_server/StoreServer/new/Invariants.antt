use Rattle.sm_shard.specs.StoreServers.{AreAllShards}
use Rattle.sm_shard.proofs.store_server.StoreServer.new.Given as goal

abbrev pub invariant-loop : goal.invariant-loop
invariant-loop g l = AreAllShards l.me l.count l.counter l.servers.items
