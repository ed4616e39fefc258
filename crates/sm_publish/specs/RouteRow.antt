-- Rows with a place for each shard.
use Rattle.std.specs.Prelude.{ℕ, ◌≡◌, Option, None, List, slice_index_or}
use Rattle.sm_ownership.specs.declared.route.Route.{Route}
use Rattle.sm_ownership.specs.Routes.{routes_of}

-- the row has the last route of each shard
abbrev pub IsRowOf : List (Option Route) → List Route → Type 0
IsRowOf row published = (shard : ℕ) → slice_index_or row shard None ≡ routes_of published shard
