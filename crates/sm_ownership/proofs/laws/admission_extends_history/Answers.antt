use Rattle.sm_ownership.specs.declared.entry.Kind.TheVariants.{Admit}
use Rattle.sm_ownership.proofs.Calls.{admission_next, table_next}
use Rattle.sm_ownership.proofs.laws.admission_extends_history.Goals as goal

pub returns : goal.returns
returns g c = λ count ceiling history actor shard server mode legal within other alone. (
  admission_next count ceiling history legal actor shard server mode within other alone,
  table_next count ceiling history legal (record { actor = actor; shard = shard; kind = Admit server mode }),
)
