use Rattle.std.proofs.Common.{List, sym, subst}
use Rattle.std.specs.List.{AllByRecursion}
use Rattle.std.specs.Prelude.{Option}
use Rattle.sm_store.specs.Deeds.{MaySend}
use Rattle.sm_shard.specs.Bases.{Part}
use Rattle.sm_shard.specs.declared.base_work.BaseWork.{BaseWork}
use Rattle.sm_shard.specs.ShardServers.{basing_by, basing_from}
use Rattle.sm_shard.proofs.ShardServers.{known_of}
use Rattle.sm_shard.proofs.Works.{bases_may}
use Rattle.sm_shard.proofs.shard_server.ShardServer.parts.Goals as goal

pub returns-in-Some-work-clause-may : goal.returns-in-Some-work-clause-may
returns-in-Some-work-clause-may g c = λ charter log parts known.
    let service = g.M.StoreMachine.service in
    let shard = c.args.self.now.shard in
    let ready = c.in-Some.ready in
    let work = c.in-Some-work.work in
    let knows = known_of service log c.args.self.now.me shard c.args.self.now.ready ready c.in-Some.is known in
    subst (λ (list : List (Part g.row.R.Denot)). AllByRecursion (MaySend charter log)
    (basing_from shard work.number 0 list)) (sym c.deref.ensures.value)
    (subst (λ (o : Option (BaseWork g.row.R.Denot)). AllByRecursion (MaySend charter log) (basing_by shard o))
    c.in-Some-work.is (bases_may service charter log shard ready.head ready.work parts knows.base))
