-- The rules of the rows of servers, groups, shards and domains, as facts.
use Rattle.std.specs.Prelude.{ℕ, ◌≡◌, ◌<◌, ◌≤◌, ◌^◌, List, length, map, All}
use Rattle.std.specs.List.Sorted.{IsStrictlyIncreasing}
use Rattle.sm_ranges.specs.ServerId.{IsServer}
use Rattle.sm_ranges.specs.declared.limits.TheConstants.{MAX_SERVER, MAX_SHARDS}
use Rattle.sm_rows.specs.declared.limits.TheConstants.{MAX_DOMAIN, MAX_DOMAIN_DOWN, MAX_GROUPS, MAX_LIMIT, MAX_CAP}
use Rattle.sm_rows.specs.declared.server_row.ServerRow.{ServerRow}
use Rattle.sm_rows.specs.declared.group_row.GroupRow.{GroupRow}
use Rattle.sm_rows.specs.declared.shard_row.ShardRow.{ShardRow}
use Rattle.sm_rows.specs.declared.domain_row.DomainRow.{DomainRow}
use Rattle.sm_rows.specs.Domains.{domains_of}

-- the facts about servers that keep their rules
pub record AreServers (rows : List ServerRow) : Type 0 where
  pub some : 1 ≤ length rows
  pub few : length rows ≤ MAX_SERVER
  pub ids : All (λ row. IsServer row.id) rows
  pub ids_rise : IsStrictlyIncreasing (map (λ row. row.id) rows)
  pub domains : All (λ row. row.domain ≤ MAX_DOMAIN) rows
  pub capacities : All (λ row. row.capacity < 2 ^ 32) rows

-- the facts about groups that keep their rules
pub record AreGroups (rows : List GroupRow) : Type 0 where
  pub some : 1 ≤ length rows
  pub few : length rows ≤ MAX_GROUPS
  pub limits : All (λ row. row.limit ≤ MAX_LIMIT) rows
  pub downs : All (λ row. row.down ≤ MAX_LIMIT) rows

-- the facts about shards that keep their rules, if there are this many groups
pub record AreShards (groups : ℕ) (rows : List ShardRow) : Type 0 where
  pub some : 1 ≤ length rows
  pub few : length rows ≤ MAX_SHARDS
  pub places_of_groups : All (λ row. row.group < groups) rows
  pub loads : All (λ row. row.load < 2 ^ 32) rows
  pub caps : All (λ row. row.cap ≤ MAX_CAP) rows

-- the facts about domains that keep their rules, if these are the servers
pub record AreDomains (servers : List ServerRow) (rows : List DomainRow) : Type 0 where
  pub those_of_servers : map (λ row. row.domain) rows ≡ domains_of servers
  pub domains : All (λ row. row.domain ≤ MAX_DOMAIN) rows
  pub downs : All (λ row. row.down ≤ MAX_DOMAIN_DOWN) rows
