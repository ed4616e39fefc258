use Rattle.std.proofs.Common.{ap, ◌∙◌}
use Rattle.sm_shard.specs.declared.steps.ShardInput.TheVariants.{Clear as ClearInput}
use Rattle.sm_shard_bytes.proofs.calls.is_behind.Goals as goal

pub returns-in-Ok-clause-told : goal.returns-in-Ok-clause-told
returns-in-Ok-clause-told g c = λ _.
    let done = c.in-Ok.ensures.told in
    let step = done.2 in (
      done.0,
      done.1,
      record {
        input = step.input;
        input_is = step.input_is ∙ ap ClearInput c.passing_key-key.ensures;
        exact = step.exact;
        call = step.call;
        asked_for = step.asked_for;
        caught_up = step.caught_up;
        me = step.me;
        shard = step.shard;
        count = step.count;
        limits = step.limits;
      },
    )
