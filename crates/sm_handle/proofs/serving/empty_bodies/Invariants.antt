use Rattle.std.proofs.Common.{◌≡◌, [], replicate}
use Rattle.sm_handle.proofs.serving.empty_bodies.Given as goal

abbrev pub invariant-loop-shard : goal.invariant-loop-shard
invariant-loop-shard l =
    l.bodies.items ≡ replicate l._shard (record { base = []; before = 0; requests = []; limit = l.kept })
