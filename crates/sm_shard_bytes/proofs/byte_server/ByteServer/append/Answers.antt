use Rattle.std.proofs.Common.{ℕ, refl, ap, ◌∙◌}
use Rattle.std.specs.Global.{Vec}
use Rattle.sm_store.specs.declared.item.Item.{Item}
use Rattle.sm_shard.specs.declared.steps.ShardInput.TheVariants.{Append}
use Rattle.sm_shard_bytes.proofs.byte_server.ByteServer.append.Goals as goal

pub returns-clause-read : goal.returns-clause-read
returns-clause-read g c =
    let head = c.in-Ok-read_head.head in
    let step = c.in_ok-_output.ensures in (
      c.in_ok-_output._output,
      tt,
      record {
        input = Append c.in-Ok.stored.state c.args.stood head c.args.logged c.deref.result;
        input_is = (
          (c.in-Ok.stored.process, c.in-Ok.ensures.found.1),
          refl,
          c.in-Ok-read_head.ensures.found.1,
          refl,
          c.deref.ensures.value ∙ ap (λ (v : Vec (Vec (Item (Vec ℕ)))). v.items) c.replace-batches.ensures.value,
        );
        exact = step.exact;
        call = step.call;
        asked_for = step.asked_for;
        caught_up = step.caught_up;
        me = step.me;
        shard = step.shard;
        count = step.count;
        limits = step.limits;
      },
    )
