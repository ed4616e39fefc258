use Rattle.std.proofs.Common.{◌≡◌}
use Rattle.std.specs.Prelude.{filter}
use Rattle.std.specs.List.{range_with_len}
use Rattle.sm_place.specs.Plans.{stands_to_move}
use Rattle.sm_place.specs.Books.{shard_at}
use Rattle.sm_place.proofs.candidates.shards_to_move.Given as goal

abbrev pub invariant-loop-at : goal.invariant-loop-at
invariant-loop-at l =
    l.numbers.items ≡ filter (λ k. stands_to_move l.from (shard_at l.shards k).stand) (range_with_len 0 l.at)
