use Rattle.sm_ownership.specs.declared.entry.Kind.TheVariants.{Change as Changed}
use Rattle.sm_ownership.proofs.Calls.{change_next, table_next}
use Rattle.sm_ownership.proofs.laws.change_extends_history.Goals as goal

pub returns : goal.returns
returns g c = λ count ceiling history shard change legal. (
  change_next count ceiling history legal shard change,
  table_next count ceiling history legal (record { actor = 0; shard = shard; kind = Changed change }),
)
