use Rattle.std.proofs.Common.{◌≡◌, take}
use Rattle.sm_shard.specs.Bases.{put_in}
use Rattle.sm_shard.proofs.base.put_all.Given as goal

abbrev pub invariant-loop-client : goal.invariant-loop-client
invariant-loop-client g l = l.lasts.entries ≡ put_in l.fn.lasts.entries (take l.client-index l.more)
