use Rattle.std.proofs.Common.{ℕ, ◌≡◌, ◌∙◌, ◌+◌, ◌<◌, List, length, ap, arith}
use Rattle.std.specs.Prelude.{remove, slice_index}
use Rattle.sm_rows.specs.declared.server_row.ServerRow.{ServerRow}
use Rattle.sm_place.specs.declared.shard.Shard.{Shard}
use Rattle.sm_place.specs.Books.{place_of, shard_at, IsKnown}
use Rattle.sm_place.specs.Room.{load_by, load_on}
use Rattle.sm_place.specs.Counters.{HasLoads}
use Rattle.sm_place.proofs.Sharing.{load_on-remove}
use Rattle.sm_place.proofs.tallies.other_load.Goals as goal

-- the server's counter has the loads of the other shards, and how much this shard takes of the server
load_others : (servers : List ServerRow) (shards : List Shard) (k a place own : ℕ) (loads : List ℕ) (shard : Shard)
    → k < length shards
    → IsKnown servers a → HasLoads servers shards loads → place ≡ place_of servers a → shard ≡ shard_at shards k
    → own ≡ load_by a shard
    → load_on (remove shards k) a + own ≡ slice_index loads place
load_others servers shards k a place own loads shard inside known has here is takes =
    let all : slice_index loads place ≡ load_on shards a = ap (slice_index loads) here ∙ has.at a known in
    let mine : own ≡ load_by a (shard_at shards k) = takes ∙ ap (load_by a) is in
    omega (arith, all, mine, load_on-remove shards k a inside)

pub overflow_sub-result : goal.overflow_sub-result
overflow_sub-result c =
    omega (
      arith,
      load_others _ _ _ _ _ _ _ _ c.requires.shard c.requires.known c.requires.loads c.place-place.ensures
          c.shard_at.ensures c.load_by.ensures,
    )

pub returns : goal.returns
returns c =
    omega (
      arith,
      load_others _ _ _ _ _ _ _ _ c.requires.shard c.requires.known c.requires.loads c.place-place.ensures
          c.shard_at.ensures c.load_by.ensures,
    )
