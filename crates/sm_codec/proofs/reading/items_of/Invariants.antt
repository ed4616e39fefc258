use Rattle.std.proofs.Common.{◌≡◌, ◌-◌}
use Rattle.sm_codec.specs.Spelling.{item_views}
use Rattle.sm_codec.specs.Reading.{items_in}
use Rattle.sm_codec.proofs.Loop.{with_front}
use Rattle.sm_codec.proofs.reading.items_of.Given as goal

abbrev pub invariant-loop : goal.invariant-loop
invariant-loop l = with_front (item_views l.items.items) (items_in (l.count - l.counter) l.rest)
    ≡ items_in l.count l.bytes
