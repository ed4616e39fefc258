use Rattle.sm_shard_bytes.proofs.Decided.{always_decided}
use Rattle.sm_shard_bytes.proofs.byte_server.ByteServer.take.Goals as goal

pub returns-in-Decided-clause-decided : goal.returns-in-Decided-clause-decided
returns-in-Decided-clause-decided g c =
    let step = c.in_ok-output.ensures in (
      c.in_ok-output.output,
      c.in-Decided.is,
      record {
        input = c.coming-input.result;
        input_is = c.coming-input.ensures;
        exact = step.exact;
        call = step.call;
        asked_for = step.asked_for;
        caught_up = step.caught_up;
        me = step.me;
        shard = step.shard;
        count = step.count;
        limits = step.limits;
      },
    )

pub returns : goal.returns
returns g c = absurd (always_decided g.M.StoreMachine.service g.M.StoreMachine.size c.args.self.now.core c.args.reads
    c.args.item c.coming-input.result c.in_ok-output.output c.coming-input.ensures c.in_ok-output.ensures.exact
    c.in_default.not-Decided)
