use Rattle.std.proofs.Common.{ℕ, ◌+◌, ◌++◌, ap, map, refl, subst, sym, ◌∙◌}
use Rattle.sm_store.specs.Whole.{all_items}
use Rattle.sm_shard.specs.declared.shard_state.ShardState.{ShardState}
use Rattle.sm_shard.specs.Replicas.{IsReplica}
use Rattle.sm_shard.specs.ShardServers.{HasRead}
use Rattle.sm_shard.specs.Steps.{IsLogReadOn}
use Rattle.sm_shard.proofs.LogReads.{batches_long, read_on_so}
use Rattle.sm_shard.proofs.ShardServers.{some_of}
use Rattle.sm_shard.proofs.shard_server.ShardServer.on_append.Goals as goal

pub returns-clause-known : goal.returns-clause-known
returns-clause-known g c = λ charter log right known stood grown.
    let service = g.M.StoreMachine.service in
    let me = c.args.self.now.me in
    let shard = c.args.self.now.shard in
    let old = c.in-Some.ready in
    let batches = map (λ batch. batch.items) c.args.batches.now in
    let is = sym c.take.ensures.value ∙ c.in-Some.is in
    let knows = some_of (λ (r : ShardState g.row.M.Denot g.row.Q.Denot g.row.R.Denot). HasRead service log me shard r)
    c.args.self.now.ready old is known in
    let read = some_of (λ (r : ShardState g.row.M.Denot g.row.Q.Denot g.row.R.Denot).
    IsLogReadOn log shard r.head.batches c.args.head c.args.logged batches) c.args.self.now.ready old is grown in
    read_on_so service charter log me shard old _ batches right knows stood read
    (ap (λ (n : ℕ). old.head.batches + n) (batches_long c.args.batches.now) ∙ c.in_ok-catch_up.ensures.batches)
    (λ before was. subst (IsReplica service (before ++ all_items batches)) (sym c.taken_back-again.ensures.made.0)
    (c.in_ok-catch_up.ensures.replica before was))
    c.taken_back-again.ensures.none.0 c.taken_back-again.ensures.none.1 refl
