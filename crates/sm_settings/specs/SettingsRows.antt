-- The rows of settings, as JSON writes them.
use Rattle.std.specs.Prelude.{ℕ, ◌==◌, ◌&&◌, List, [], ◌∷◌, length, Bool, codes}
use Rattle.serde_json.specs.Data.{Data}
use Rattle.sm_rows.specs.declared.group_row.GroupRow.{GroupRow}
use Rattle.sm_rows.specs.declared.server_row.ServerRow.{ServerRow}
use Rattle.sm_rows.specs.declared.shard_row.ShardRow.{ShardRow}
use Rattle.sm_rows.specs.declared.domain_row.DomainRow.{DomainRow}
use Rattle.sm_rows.specs.Rows.{are_servers, are_groups, are_shards}
use Rattle.sm_rows.specs.Domains.{are_domains}
use Rattle.sm_settings.specs.Members.{number_at, is_whole, is_object_of}

-- an object with exactly the members of a server's row, each a number
abbrev pub is_server_object : Data → Bool
is_server_object =
    is_object_of ((codes "id", is_whole) ∷ (codes "domain", is_whole) ∷ (codes "capacity", is_whole) ∷ [])

-- the row of an object
abbrev pub server_row_of : Data → ServerRow
server_row_of d = record {
  id = number_at (codes "id") d;
  domain = number_at (codes "domain") d;
  capacity = number_at (codes "capacity") d;
}

-- an object with exactly the members of a group's row, each a number
abbrev pub is_group_object : Data → Bool
is_group_object = is_object_of ((codes "limit", is_whole) ∷ (codes "down", is_whole) ∷ [])

-- the row of an object
abbrev pub group_row_of : Data → GroupRow
group_row_of d = record { limit = number_at (codes "limit") d; down = number_at (codes "down") d }

-- an object with exactly the members of a shard's row, each a number
abbrev pub is_shard_object : Data → Bool
is_shard_object = is_object_of ((codes "group", is_whole) ∷ (codes "load", is_whole) ∷ (codes "cap", is_whole) ∷ [])

-- the row of an object
abbrev pub shard_row_of : Data → ShardRow
shard_row_of d =
    record { group = number_at (codes "group") d; load = number_at (codes "load") d; cap = number_at (codes "cap") d }

-- an object with exactly the members of a domain's row, each a number
abbrev pub is_domain_object : Data → Bool
is_domain_object = is_object_of ((codes "domain", is_whole) ∷ (codes "down", is_whole) ∷ [])

-- the row of an object
abbrev pub domain_row_of : Data → DomainRow
domain_row_of d = record { domain = number_at (codes "domain") d; down = number_at (codes "down") d }

-- ---- the rules on rows

-- servers keep their rules
unfoldable pub rule_of_servers : List ServerRow → Bool
rule_of_servers rows = are_servers rows

-- groups keep their rules
unfoldable pub rule_of_groups : List GroupRow → Bool
rule_of_groups rows = are_groups rows

-- there is a shard for each of this many bounds, and the shards keep their rules, if there are this many groups
unfoldable pub rule_of_shards : ℕ → ℕ → List ShardRow → Bool
rule_of_shards bounds groups rows = length rows == bounds && are_shards groups rows

-- domains keep their rules, if these are the servers
unfoldable pub rule_of_domains : List ServerRow → List DomainRow → Bool
rule_of_domains servers rows = are_domains servers rows
