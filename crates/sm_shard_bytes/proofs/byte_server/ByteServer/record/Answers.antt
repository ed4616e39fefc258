use Rattle.std.proofs.Common.{refl, subst, sym}
use Rattle.sm_shard_bytes.specs.Servers.{ByteInput, IsRecordReading}
use Rattle.sm_shard_bytes.proofs.byte_server.ByteServer.record.Goals as goal

pub returns-clause-read : goal.returns-clause-read
returns-clause-read g c =
    let step = c.in_ok-_output.ensures in (
      c.in_ok-_output._output,
      tt,
      record {
        input = c.record_read-input.result;
        input_is = subst (λ (i : ByteInput g.row.R.Denot). IsRecordReading c.args.standing.now c.args.stood i)
            (sym c.record_read-input.ensures) ((c.in-Ok.stored.process, c.in-Ok.ensures.found.1), refl);
        exact = step.exact;
        call = step.call;
        asked_for = step.asked_for;
        caught_up = step.caught_up;
        me = step.me;
        shard = step.shard;
        count = step.count;
        limits = step.limits;
      },
    )
