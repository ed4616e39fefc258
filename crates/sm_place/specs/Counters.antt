-- The counters of the books. Each is a sum or a count over all rows.
use Rattle.std.specs.Prelude.{ℕ, All, List, ◌≡◌, ◌+◌, ◌*◌, ◌^◌, ◌<◌, ◌≤◌, length, map, slice_index, slice_index_or}
use Rattle.std.specs.List.Sorted.{IsStrictlyIncreasing}
use Rattle.sm_ranges.specs.declared.limits.TheConstants.{MAX_SERVER, MAX_SHARDS}
use Rattle.sm_rows.specs.declared.limits.TheConstants.{MAX_GROUPS, MAX_LIMIT}
use Rattle.sm_rows.specs.declared.server_row.ServerRow.{ServerRow}
use Rattle.sm_rows.specs.declared.group_row.GroupRow.{GroupRow}
use Rattle.sm_place.specs.declared.shard.Shard.{Shard}
use Rattle.sm_place.specs.declared.server_state.ServerState.{ServerState}
use Rattle.sm_place.specs.Books.{no_group, place_of, IsKnown, row_by_id, shard_at}
use Rattle.sm_ranges.specs.ServerId.{IsServer}
use Rattle.sm_ranges.specs.Stand.{AllNamed}
use Rattle.sm_place.specs.Ranks.{Ranking, domain_cell, rank_of, AreRanked}
use Rattle.sm_place.specs.Room.{load_on, count_in, HasRoom}

-- the table of places finds each server's row
pub record HasPlaces (servers : List ServerRow) (places : List ℕ) : Type 0 where
  pub len : length places ≡ MAX_SERVER + 1
  pub at : (a : ℕ) → a ≤ MAX_SERVER → slice_index places a ≡ place_of servers a

-- the numbers of the servers are in their range and rise, and the rows keep to their ranges
pub record HasRanges (servers : List ServerRow) (groups : List GroupRow) (states : List ServerState)
    (ranking : Ranking) : Type 0 where
  pub numbers : All (λ row. IsServer row.id) servers
  pub servers_rise : IsStrictlyIncreasing (map (λ row. row.id) servers)
  pub states_len : length states ≡ length servers
  pub domains : AreRanked servers ranking
  pub capacities : (a : ℕ) → IsKnown servers a → (row_by_id servers a).capacity < 2 ^ 32
  pub group_count : length groups ≤ MAX_GROUPS
  pub limits : (g : ℕ) → g < length groups → (slice_index_or groups g no_group).limit ≤ MAX_LIMIT

-- each shard's group and servers have rows
pub record HasRows (servers : List ServerRow) (groups : List GroupRow) (shards : List Shard) : Type 0 where
  pub count : length shards ≤ MAX_SHARDS
  pub group : (k : ℕ) → k < length shards → (shard_at shards k).row.group < length groups
  pub known : (k : ℕ) → k < length shards → AllNamed (IsKnown servers) (shard_at shards k).stand

-- each server's counter is the sum of the loads on it
pub record HasLoads (servers : List ServerRow) (shards : List Shard) (loads : List ℕ) : Type 0 where
  pub len : length loads ≡ length servers
  pub at : (a : ℕ) → IsKnown servers a → slice_index loads (place_of servers a) ≡ load_on shards a

-- the group has a counter for each domain that has a rank
pub record HasCells (counts : List ℕ) (g : ℕ) (ranking : Ranking) : Type 0 where
  pub at : (d : ℕ) → rank_of ranking d < ranking.width → domain_cell ranking g d < length counts

-- the counter of each group and domain is the count of the group's shards there
pub record HasCounts (servers : List ServerRow) (shards : List Shard) (counts : List ℕ)
    (ranking : Ranking) : Type 0 where
  pub at : (g d : ℕ) → rank_of ranking d < ranking.width → domain_cell ranking g d < length counts
      → slice_index counts (domain_cell ranking g d) ≡ count_in servers shards g d

-- the facts about all books: rows in their ranges, room, and counters that agree with the rows
pub record IsTallied
    (servers : List ServerRow) (groups : List GroupRow) (shards : List Shard) (states : List ServerState)
    (loads counts : List ℕ) (ranking : Ranking) : Type 0 where
  pub has_ranges : HasRanges servers groups states ranking
  pub has_rows : HasRows servers groups shards
  pub has_room : HasRoom servers groups shards
  pub has_loads : HasLoads servers shards loads
  pub counts_len : length counts ≡ length groups * ranking.width
  pub has_counts : HasCounts servers shards counts ranking
