-- The rules of the rows of servers, groups and shards, as tests.
use Rattle.std.specs.Prelude.{ℕ, ◌&&◌, List, length, drop, Bool, nat_le, nat_lt}
use Rattle.std.specs.List.{list_all, zip}
use Rattle.sm_ranges.specs.declared.limits.TheConstants.{MAX_SERVER, MAX_SHARDS}
use Rattle.sm_rows.specs.declared.limits.TheConstants.{MAX_DOMAIN, MAX_GROUPS, MAX_LIMIT, MAX_CAP}
use Rattle.sm_rows.specs.declared.server_row.ServerRow.{ServerRow}
use Rattle.sm_rows.specs.declared.group_row.GroupRow.{GroupRow}
use Rattle.sm_rows.specs.declared.shard_row.ShardRow.{ShardRow}

-- the number is from low to high, both included
abbrev pub is_within : ℕ → ℕ → ℕ → Bool
is_within low high n = nat_le low n && nat_le n high

-- each number of a server's row is in its range
abbrev pub is_server_row : ServerRow → Bool
is_server_row row =
    is_within 1 MAX_SERVER row.id && is_within 0 MAX_DOMAIN row.domain && is_within 0 4294967295 row.capacity

-- the number of each server is below that of the next one
abbrev pub are_rising : List ServerRow → Bool
are_rising rows = list_all (λ pair. nat_lt pair.0.id pair.1.id) (zip rows (drop 1 rows))

-- the rules of servers: 1 to 4,095 rows with rising numbers, each in its range
abbrev pub are_servers : List ServerRow → Bool
are_servers rows = is_within 1 MAX_SERVER (length rows) && list_all is_server_row rows && are_rising rows

-- each number of a group's row is in its range
abbrev pub is_group_row : GroupRow → Bool
is_group_row row = is_within 0 MAX_LIMIT row.limit && is_within 0 MAX_LIMIT row.down

-- the rules of groups: 1 to 4,096 rows, each in its range
abbrev pub are_groups : List GroupRow → Bool
are_groups rows = is_within 1 MAX_GROUPS (length rows) && list_all is_group_row rows

-- each number of a shard's row is in its range, if there are this many groups
abbrev pub is_shard_row : ℕ → ShardRow → Bool
is_shard_row groups row = nat_lt row.group groups && is_within 0 4294967295 row.load && is_within 0 MAX_CAP row.cap

-- the rules of shards: 1 to 4,096 rows, each in its range if there are this many groups
abbrev pub are_shards : ℕ → List ShardRow → Bool
are_shards groups rows = is_within 1 MAX_SHARDS (length rows) && list_all (is_shard_row groups) rows
