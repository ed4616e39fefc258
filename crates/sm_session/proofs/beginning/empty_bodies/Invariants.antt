use Rattle.std.proofs.Common.{◌≡◌, [], replicate}
use Rattle.sm_session.proofs.beginning.empty_bodies.Given as goal

abbrev pub invariant-loop-shard : goal.invariant-loop-shard
invariant-loop-shard l =
    l.bodies.items ≡ replicate l._shard (record { base = []; before = 0; requests = []; limit = l.limit })
