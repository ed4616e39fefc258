use Rattle.sm_shard_bytes.proofs.byte_server.ByteServer.begin_base.Goals as goal

pub returns-clause-begun : goal.returns-clause-begun
returns-clause-begun g c =
    let step = c.in_ok-output.ensures in (
      c.in_ok-output.output,
      c.is_basing.ensures,
      record {
        input = c.base.result;
        input_is = c.base.ensures;
        exact = step.exact;
        call = step.call;
        asked_for = step.asked_for;
        caught_up = step.caught_up;
        me = step.me;
        shard = step.shard;
        count = step.count;
        limits = step.limits;
      },
    )
