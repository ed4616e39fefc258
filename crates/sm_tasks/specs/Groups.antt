-- Counts of a group's shards.
use Rattle.std.specs.Prelude.{ℕ, Bool, List, ◌==◌, ◌&&◌, count_by, slice_index_or}
use Rattle.sm_ranges.specs.declared.stand.Stand.{Stand}
use Rattle.sm_place.specs.declared.shard.Shard.{Shard}
use Rattle.sm_place.specs.Books.{BooksView, no_group}

-- whether the shard is in the group and its stand passes the test
abbrev pub is_in_group : (Stand → Bool) → ℕ → Shard → Bool
is_in_group test g shard = (shard.row.group == g) && test shard.stand

-- how many shards of the group have a stand that passes the test
abbrev pub group_count : (Stand → Bool) → List Shard → ℕ → ℕ
group_count test shards g = count_by (is_in_group test g) shards

-- how many shards of the group may be down for planned restarts at the same time
abbrev pub down_of : BooksView → ℕ → ℕ
down_of books g = (slice_index_or books.groups g no_group).down
