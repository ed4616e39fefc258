use Rattle.std.proofs.Common.{◌≡◌, map, take}
use Rattle.sm_codec.specs.Spelling.{item_views}
use Rattle.sm_shard_bytes.specs.Replies.{last_item}
use Rattle.sm_shard_bytes.proofs.parts.lasts_of.Given as goal

abbrev pub invariant-loop-item : goal.invariant-loop-item
invariant-loop-item g l =
    item_views (take l.item-index l.items) ≡ map (last_item g.R.ReplyBytes.spelled) l.lasts.items
