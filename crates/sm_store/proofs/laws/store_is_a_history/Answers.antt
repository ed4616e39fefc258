use Rattle.sm_store.proofs.HistoryRequests.{legal_history, requests_so, table_so}
use Rattle.sm_store.proofs.Right.{honest_is_right}
use Rattle.sm_store.proofs.laws.store_is_a_history.Goals as goal

pub returns : goal.returns
returns g c = record {
  legal = λ charter ceiling log honest room. legal_history charter ceiling log
      (honest_is_right charter log honest) room;
  stands = λ charter ceiling log honest room.
      table_so charter ceiling log (honest_is_right charter log honest) room;
  requests = λ charter log shard honest. requests_so charter shard log (honest_is_right charter log honest);
}
