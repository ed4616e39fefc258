use Rattle.sm_ownership.specs.declared.entry.Kind.TheVariants.{Done}
use Rattle.sm_ownership.proofs.Calls.{end_next, table_next}
use Rattle.sm_ownership.proofs.laws.end_extends_history.Goals as goal

pub returns : goal.returns
returns g c = λ count ceiling history actor shard ending legal within. (
  end_next count ceiling history legal actor shard ending within,
  table_next count ceiling history legal (record { actor = actor; shard = shard; kind = Done ending }),
)
