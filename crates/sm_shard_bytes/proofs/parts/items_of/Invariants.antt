use Rattle.std.proofs.Common.{◌≡◌, map, take}
use Rattle.std.specs.List.{AllByRecursion}
use Rattle.sm_codec.specs.Spelling.{FitsItem, item_views}
use Rattle.sm_shard_bytes.specs.Replies.{last_item}
use Rattle.sm_shard_bytes.proofs.parts.items_of.Given as goal

abbrev pub invariant-loop-client : goal.invariant-loop-client
invariant-loop-client g l =
    (item_views l.items.items ≡ map (last_item g.R.ReplyBytes.spelled) (take l.client-index l.lasts))
    × AllByRecursion FitsItem (item_views l.items.items)
