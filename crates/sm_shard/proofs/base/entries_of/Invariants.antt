use Rattle.std.proofs.Common.{◌≡◌, ◌++◌}
use Rattle.sm_shard.proofs.base.entries_of.Given as goal

abbrev pub invariant-loop-client : goal.invariant-loop-client
invariant-loop-client g l = l.entries.items ++ l.client-iterator ≡ l.lasts.entries
