use Rattle.std.proofs.Common.{◌≡◌, ◌<◌, ℕ}
use Rattle.sm_place.specs.Books.{shard_at}
use Rattle.sm_lead.specs.Commands.{read_at}
use Rattle.sm_lead.proofs.replay.are_stands_read.Given as goal

abbrev pub invariant-loop-k : goal.invariant-loop-k
invariant-loop-k l = (j : ℕ) → j < l.k → (shard_at l.shards j).stand ≡ (read_at l.reads j).state.stand
