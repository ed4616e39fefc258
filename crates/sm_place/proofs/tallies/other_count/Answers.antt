use Rattle.std.proofs.Common.{ℕ, ◌≡◌, ◌+◌, ◌<◌, List, length, ap, arith, cond}
use Rattle.std.specs.Prelude.{remove, slice_index}
use Rattle.sm_rows.specs.declared.server_row.ServerRow.{ServerRow}
use Rattle.sm_place.specs.declared.shard.Shard.{Shard}
use Rattle.sm_place.specs.Books.{domain_of, shard_at, IsKnown}
use Rattle.sm_place.specs.Cells.{cell_of}
use Rattle.sm_place.specs.Counters.{HasCells, HasCounts}
use Rattle.sm_place.specs.Ranks.{Ranking, AreRanked}
use Rattle.sm_place.specs.Room.{count_in, names_domain}
use Rattle.sm_place.proofs.Counting.{count_others}
use Rattle.sm_place.proofs.tallies.other_count.Goals as goal

-- the counter of the server's domain has the other shards, and this shard if it names a server there
count_of_others : (servers : List ServerRow) (r : Ranking) (shards : List Shard) (k a cell d own count : ℕ)
    (counts : List ℕ) (shard : Shard)
    → k < length shards → AreRanked servers r → HasCells counts (shard_at shards k).row.group r → IsKnown servers a
    → HasCounts servers shards counts r → shard ≡ shard_at shards k → cell ≡ cell_of servers r shard.row.group a
    → d ≡ domain_of servers a
    → own ≡ cond (names_domain servers shard.stand d) 1 0 → count ≡ slice_index counts cell
    → count_in servers (remove shards k) (shard_at shards k).row.group (domain_of servers a) + own ≡ count
count_of_others servers r shards k a cell d own count counts shard inside ranked cells known has is here there takes
    holds =
    let mine : own ≡ cond (names_domain servers (shard_at shards k).stand (domain_of servers a)) 1 0 =
    rw (is, there) at takes in
    let all : count ≡ slice_index counts (cell_of servers r (shard_at shards k).row.group a) = rw (here, is) at holds in
    omega (arith, mine, all, count_others servers r shards k a counts inside ranked cells known has)

pub overflow_sub-result : goal.overflow_sub-result
overflow_sub-result c =
    omega (
      arith,
      count_of_others _ _ _ _ _ _ _ _ _ _ _ c.requires.shard c.requires.domains c.requires.cells c.requires.known
          c.requires.counts
          c.shard_at-shard.ensures c.cell-cell.ensures
          (ap (λ (r : ServerRow). r.domain) c.row.ensures) c.count_by.ensures c.from.ensures,
    )

pub returns : goal.returns
returns c =
    omega (
      arith,
      count_of_others _ _ _ _ _ _ _ _ _ _ _ c.requires.shard c.requires.domains c.requires.cells c.requires.known
          c.requires.counts
          c.shard_at-shard.ensures c.cell-cell.ensures
          (ap (λ (r : ServerRow). r.domain) c.row.ensures) c.count_by.ensures c.from.ensures,
    )
