use Rattle.sm_shard_bytes.proofs.byte_server.ByteServer.on_parts_made.Goals as goal

pub returns-clause-noted : goal.returns-clause-noted
returns-clause-noted g c =
    let step = c.in_ok-_output.ensures in (
      c.in_ok-_output._output,
      tt,
      record {
        input = c.parts_made.result;
        input_is = c.parts_made.ensures;
        exact = step.exact;
        call = step.call;
        asked_for = step.asked_for;
        caught_up = step.caught_up;
        me = step.me;
        shard = step.shard;
        count = step.count;
        limits = step.limits;
      },
    )
