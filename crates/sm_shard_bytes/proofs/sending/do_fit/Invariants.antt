use Rattle.std.proofs.Common.{take}
use Rattle.std.specs.List.{AllByRecursion}
use Rattle.sm_codec.specs.Spelling.{FitsItem, item_views}
use Rattle.sm_shard_bytes.proofs.sending.do_fit.Given as goal

abbrev pub invariant-loop-item : goal.invariant-loop-item
invariant-loop-item l = AllByRecursion FitsItem (item_views (take l.item-index l.items))
