use Rattle.std.proofs.Common.{ap, ◌∙◌}
use Rattle.sm_shard_bytes.specs.Replies.{last_item}
use Rattle.sm_shard_bytes.proofs.Items.{items_fit, items_spelled}
use Rattle.sm_shard_bytes.proofs.parts.items_of.Goals as goal

pub loop-client-preserved : goal.loop-client-preserved
loop-client-preserved g c =
    let spelled = g.R.ReplyBytes.spelled in
    let before = c.loop-client.items.items in
    let after = c.push.new.self.items in
    let item = c.in_ok-item.item in
    let last = c.loop-client-item.result in
    let pushed = c.in_ok-push.ensures.items in (
      items_spelled before after item pushed spelled c.args.lasts.now c.loop-client.client-index last
          c.loop-client-test.true (c.in_ok-item.ensures.spelled ∙ ap (last_item spelled) c.loop-client-item.is)
          c.loop-client.invariant.0,
      items_fit before after item pushed c.loop-client.invariant.1 c.in_ok-item.ensures.fits,
    )
