-- The facts about all books.
use Rattle.std.specs.Prelude.{ℕ, All, ◌≡◌, ◌<◌, ◌≤◌, length, map}
use Rattle.std.specs.List.Sorted.{IsStrictlyIncreasing}
use Rattle.sm_ranges.specs.declared.limits.TheConstants.{MAX_SHARDS}
use Rattle.sm_rows.specs.declared.limits.TheConstants.{MAX_GROUPS}
use Rattle.sm_place.specs.Books.{BooksView, IsKnown, shard_at}
use Rattle.sm_ranges.specs.ServerId.{IsServer}
use Rattle.sm_ranges.specs.Stand.{AllNamed}
use Rattle.sm_place.specs.Room.{HasRoom}

-- the numbers of the servers are in their range and rise, each server has a state, each shard's group and servers have
-- rows, and there is room
pub record AreSound (books : BooksView) : Type 0 where
  pub numbers : All (λ row. IsServer row.id) books.servers
  pub servers_rise : IsStrictlyIncreasing (map (λ row. row.id) books.servers)
  pub states : length books.states ≡ length books.servers
  pub groups : length books.groups ≤ MAX_GROUPS
  pub shards : length books.shards ≤ MAX_SHARDS
  pub group : (k : ℕ) → k < length books.shards → (shard_at books.shards k).row.group < length books.groups
  pub known : (k : ℕ) → k < length books.shards → AllNamed (IsKnown books.servers) (shard_at books.shards k).stand
  pub room : HasRoom books.servers books.groups books.shards
