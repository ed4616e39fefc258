use Rattle.std.proofs.Common.{refl}
use Rattle.sm_shard_bytes.proofs.calls.take.Goals as goal

pub returns-in-Ok-take-clause-decided : goal.returns-in-Ok-take-clause-decided
returns-in-Ok-take-clause-decided g c = λ _.
    let done = c.in-Ok-take.ensures.decided in
    let step = done.2 in (
      done.0,
      (c.in-Ok-take.decision, done.1, c.code_of_decision.ensures.tells),
      record {
        input = step.input;
        input_is = (_, (refl, refl, c.in-Some.ensures.comes, refl, refl, c.in-Ok.ensures.items), step.input_is);
        exact = step.exact;
        call = step.call;
        asked_for = step.asked_for;
        caught_up = step.caught_up;
        me = step.me;
        shard = step.shard;
        count = step.count;
        limits = step.limits;
      },
    )
