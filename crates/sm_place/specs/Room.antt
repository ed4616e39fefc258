-- Room on servers and in fault domains, by sums and counts over all shards.
use Rattle.std.specs.Prelude.{ℕ, Bool, Result, Ok, Err, List, ◌+◌, ◌<◌, ◌≤◌, ◌==◌, ◌&&◌, if◌then◌else◌}
use Rattle.std.specs.Prelude.{length, slice_index_or, sum_by, nat_lt, remove}
use Rattle.std.specs.List.{count_by}
use Rattle.sm_ranges.specs.declared.stand.Stand.{Stand}
use Rattle.sm_rows.specs.declared.server_row.ServerRow.{ServerRow}
use Rattle.sm_rows.specs.declared.group_row.GroupRow.{GroupRow}
use Rattle.sm_place.specs.declared.shard.Shard.{Shard}
use Rattle.sm_place.specs.declared.place_fault.PlaceFault.{PlaceFault}
use Rattle.sm_place.specs.declared.place_fault.PlaceFault.TheVariants.{Leaving, NoCapacity, DomainLimit}
use Rattle.sm_ranges.specs.Stand.{names, names_one}
use Rattle.sm_place.specs.ServerState.{is_leaving}
use Rattle.sm_place.specs.Books.{BooksView, no_group, IsKnown, row_by_id, domain_of, shard_at, state_of}

-- how much of the server's capacity the shard takes
abbrev pub load_by : ℕ → Shard → ℕ
load_by a shard = if names shard.stand a then shard.row.load else 0

-- the sum of the loads of the shards that name the server
abbrev pub load_on : List Shard → ℕ → ℕ
load_on shards a = sum_by (load_by a) shards

-- whether the stand names a server of the domain
abbrev pub names_domain : List ServerRow → Stand → ℕ → Bool
names_domain servers stand d = names_one (λ a. domain_of servers a == d) stand

-- whether the shard is in the group and names a server of the domain
abbrev pub is_in : List ServerRow → ℕ → ℕ → Shard → Bool
is_in servers g d shard = (shard.row.group == g) && names_domain servers shard.stand d

-- how many shards of the group name a server of the domain
abbrev pub count_in : List ServerRow → List Shard → ℕ → ℕ → ℕ
count_in servers shards g d = count_by (is_in servers g d) shards

-- each server has the capacity for the shards that name it, and each group is within its limit in each domain
pub record HasRoom (servers : List ServerRow) (groups : List GroupRow) (shards : List Shard) : Type 0 where
  pub capacity : (a : ℕ) → IsKnown servers a → load_on shards a ≤ (row_by_id servers a).capacity
  pub limit : (g d : ℕ) → g < length groups → count_in servers shards g d ≤ (slice_index_or groups g no_group).limit

-- whether shard k may newly name server a, or the first fault that applies
abbrev pub fit : BooksView → ℕ → ℕ → Result (Unit {0}) PlaceFault
fit books k a =
    let others = remove books.shards k in
    let row = (shard_at books.shards k).row in
    let server = row_by_id books.servers a in
    let group = slice_index_or books.groups row.group no_group in
    if is_leaving (state_of books a) then Err Leaving
    else (if nat_lt server.capacity (load_on others a + row.load) then Err NoCapacity
    else (if nat_lt group.limit (count_in books.servers others row.group server.domain + 1) then Err DomainLimit
    else Ok tt))
