use Rattle.std.proofs.Common.{rules, ℕ, ◌+◌, ap, refl, map, ◌∙◌}
use Rattle.sm_shard.proofs.LogReads.{batches_long, read_so}
use Rattle.sm_shard.proofs.shard_server.ShardServer.on_read.Goals as goal

pub returns-clause-known : goal.returns-clause-known
returns-clause-known g c = λ charter log parts right stood read.
    let done = c.in_ok-replica.ensures in
    read_so g.M.StoreMachine.service charter log c.args.self.now.me c.args.self.now.shard _
    c.args.parts.now (map (λ batch. batch.items) c.args.batches.now) parts right stood read done.parts
    (ap (λ (n : ℕ). c.args.head.base + n) (batches_long c.args.batches.now) ∙ done.batches)
    done.replica (search rules) (search rules) refl
