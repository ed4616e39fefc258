use Rattle.sm_shard_bytes.proofs.byte_server.ByteServer.flush.Goals as goal

pub returns-clause-sends : goal.returns-clause-sends
returns-clause-sends g c =
    let step = c.in_ok-output.ensures in (
      c.in_ok-output.output,
      c.is_sending.ensures,
      record {
        input = c.flush.result;
        input_is = c.flush.ensures;
        exact = step.exact;
        call = step.call;
        asked_for = step.asked_for;
        caught_up = step.caught_up;
        me = step.me;
        shard = step.shard;
        count = step.count;
        limits = step.limits;
      },
    )
