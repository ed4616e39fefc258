use Rattle.sm_whole.proofs.laws.store_servers_step.Goals as goal

pub returns : goal.returns
returns g c = λ charter fleet which since shard olds news input result step at is. (
  (
    at,
    record {
      call = step.call;
      input_is = is;
      me = step.me;
      shard = step.shard_is;
      count = step.count;
    },
  ),
  step.asked_for,
)
