use Rattle.sm_store.proofs.Linear.{all_own, linear, told_first}
use Rattle.sm_store.proofs.laws.runs_are_linear.Goals as goal

pub returns : goal.returns
returns g c = record {
  linear = λ service charter events leave might asked. linear _ service charter events leave might asked;
  in_time = told_first;
  own_request = all_own;
}
