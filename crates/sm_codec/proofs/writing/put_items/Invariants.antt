use Rattle.std.proofs.Common.{◌≡◌, ◌++◌, take}
use Rattle.std.specs.List.{flat_map}
use Rattle.sm_codec.specs.Spelling.{item_bytes, item_views}
use Rattle.sm_codec.proofs.writing.put_items.Given as goal

abbrev pub invariant-loop-item : goal.invariant-loop-item
invariant-loop-item l =
    l.out.items ≡ l.fn.out.items ++ flat_map item_bytes (item_views (take l.item-index l.items))
