-- The contents of the books, how a server's row is found, and which rows are books.
use Rattle.std.specs.Prelude.{ℕ, Option, Some, None, List, ◌<◌, ◌==◌, if◌then◌else◌, length, map, replicate}
use Rattle.std.specs.Prelude.{slice_index_or, slice_set}
use Rattle.std.specs.List.{position_or_len}
use Rattle.sm_ranges.specs.declared.stand.Stand.{Stand}
use Rattle.sm_ranges.specs.declared.stand.Stand.TheVariants.{Vacant}
use Rattle.sm_rows.specs.declared.server_row.ServerRow.{ServerRow}
use Rattle.sm_rows.specs.declared.group_row.GroupRow.{GroupRow}
use Rattle.sm_rows.specs.declared.shard_row.ShardRow.{ShardRow}
use Rattle.sm_rows.specs.declared.domain_row.DomainRow.{DomainRow}
use Rattle.sm_place.specs.declared.shard.Shard.{Shard}
use Rattle.sm_place.specs.declared.server_state.ServerState.{ServerState}
use Rattle.sm_place.specs.declared.server_state.ServerState.TheVariants.{Up}
use Rattle.sm_place.specs.declared.books_fault.BooksFault.{BooksFault}
use Rattle.sm_place.specs.declared.books_fault.BooksFault.TheVariants.{BadServers, BadGroups, BadShards, BadDomains}
use Rattle.sm_rows.specs.Rows.{are_servers, are_groups, are_shards}
use Rattle.sm_rows.specs.Domains.{are_domains}

-- the contents of the books; the states are in the order of the servers
pub record BooksView : Type 0 where
  pub servers : List ServerRow
  pub groups : List GroupRow
  pub shards : List Shard
  pub states : List ServerState
  pub domains : List DomainRow

-- the row that is read if the server has none
abbrev pub no_server : ServerRow
no_server = record { id = 0; domain = 0; capacity = 0 }

-- the row that is read if the group has none
abbrev pub no_group : GroupRow
no_group = record { limit = 0; down = 0 }

-- the shard that is read if there is none
abbrev pub no_shard : Shard
no_shard = record { row = record { group = 0; load = 0; cap = 0 }; stand = Vacant }

-- the place of the server's row, or the number of rows if it has none
abbrev pub place_of : List ServerRow → ℕ → ℕ
place_of servers a = position_or_len (λ row. row.id == a) servers

-- the server has a row
abbrev pub IsKnown : List ServerRow → ℕ → Type 0
IsKnown servers a = place_of servers a < length servers

-- the row at the place
abbrev pub row_at : List ServerRow → ℕ → ServerRow
row_at servers i = slice_index_or servers i no_server

-- the server's row
abbrev pub row_by_id : List ServerRow → ℕ → ServerRow
row_by_id servers a = slice_index_or servers (place_of servers a) no_server

-- the server's domain
abbrev pub domain_of : List ServerRow → ℕ → ℕ
domain_of servers a = (row_by_id servers a).domain

-- shard k
abbrev pub shard_at : List Shard → ℕ → Shard
shard_at shards k = slice_index_or shards k no_shard

-- the shard with another stand
abbrev pub moved : Shard → Stand → Shard
moved shard stand = record { row = shard.row; stand = stand }

-- the shards, except that shard k has this stand
abbrev pub with_stand : List Shard → ℕ → Stand → List Shard
with_stand shards k stand = slice_set shards k (moved (shard_at shards k) stand)

-- the server's state
abbrev pub state_of : BooksView → ℕ → ServerState
state_of books a = slice_index_or books.states (place_of books.servers a) Up

-- the books, except that the server is in this state
abbrev pub with_state : BooksView → ℕ → ServerState → BooksView
with_state books a state = record books { states = slice_set books.states (place_of books.servers a) state }

-- the first fault of rows, in the order BadServers, BadGroups, BadShards, BadDomains; there is none if they are books
abbrev pub first_books_fault : List ServerRow → List GroupRow → List ShardRow → List DomainRow → Option BooksFault
first_books_fault servers groups shards domains =
    if are_servers servers then (if are_groups groups
    then (if are_shards (length groups) shards then (if are_domains servers domains then None
    else Some BadDomains) else Some BadShards) else Some BadGroups) else Some BadServers

-- the shard that nobody owns yet
abbrev pub vacant_shard : ShardRow → Shard
vacant_shard row = record { row = row; stand = Vacant }

-- the books at the start: all servers are up, and all shards are vacant
abbrev pub new_books : List ServerRow → List GroupRow → List ShardRow → List DomainRow → BooksView
new_books servers groups shards domains = record {
  servers = servers;
  groups = groups;
  shards = map vacant_shard shards;
  states = replicate (length servers) Up;
  domains = domains;
}
