use Rattle.std.proofs.Common.{inl, inr, refl}
use Rattle.sm_store.specs.Store.{head_key, leader_key, leader_of, record_key, stored_record}
use Rattle.sm_store.specs.Deeds.{shard_log}
use Rattle.sm_store.specs.lemmas.Heart.{stands}
use Rattle.sm_store.specs.lemmas.Views.{leader_view, record_view, log_view}
use Rattle.sm_store.proofs.laws.read_stands.Goals as goal

pub returns : goal.returns
returns g c = record {
  leader = λ log process revision rising there found now.
      stands leader_of leader_key leader_view log process revision rising (inr there) found now;
  record_of = λ log shard state revision rising found now.
      stands (stored_record shard) (record_key shard) (record_view shard) log state revision rising (inl refl) found
      now;
  log = λ log shard read revision rising found now.
      stands (shard_log shard) (head_key shard) (log_view shard) log read revision rising (inl refl) found now;
}
