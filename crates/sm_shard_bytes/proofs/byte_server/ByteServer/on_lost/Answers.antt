use Rattle.sm_shard_bytes.proofs.byte_server.ByteServer.on_lost.Goals as goal

pub returns-clause-lost : goal.returns-clause-lost
returns-clause-lost g c =
    let step = c.in_ok-_output.ensures in (
      c.in_ok-_output._output,
      tt,
      record {
        input = c.lost.result;
        input_is = c.lost.ensures;
        exact = step.exact;
        call = step.call;
        asked_for = step.asked_for;
        caught_up = step.caught_up;
        me = step.me;
        shard = step.shard;
        count = step.count;
        limits = step.limits;
      },
    )
