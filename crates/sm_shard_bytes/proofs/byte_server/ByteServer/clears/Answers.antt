use Rattle.sm_shard_bytes.proofs.byte_server.ByteServer.clears.Goals as goal

pub returns-clause-told : goal.returns-clause-told
returns-clause-told g c =
    let step = c.in_ok-output.ensures in (
      c.in_ok-output.output,
      c.is_clearing.ensures,
      record {
        input = c.clear.result;
        input_is = c.clear.ensures;
        exact = step.exact;
        call = step.call;
        asked_for = step.asked_for;
        caught_up = step.caught_up;
        me = step.me;
        shard = step.shard;
        count = step.count;
        limits = step.limits;
      },
    )
