-- Published routes.
use Rattle.std.specs.Prelude.{ℕ, Bool, false, Option, Some, None, ◌==◌, nat_le, List, find, reverse}
use Rattle.std.specs.Option.{option_map}
use Rattle.sm_ranges.specs.Stand.{owner_of}
use Rattle.sm_ownership.specs.declared.record.Record.{Record}
use Rattle.sm_ownership.specs.declared.route.Route.{Route}

-- the last route of the shard in these publications, if there is one
abbrev pub routes_of : List Route → ℕ → Option Route
routes_of publications shard = find (λ route. route.shard == shard) (reverse publications)

-- the route that a shard's record makes: if the shard has an owner, to the owner at the record's generation
abbrev pub record_route : ℕ → Record → Option Route
record_route shard state =
    option_map (λ owner. record { shard = shard; server = owner; generation = state.generation }) (owner_of state.stand)

-- the route isn't newer than the shard's last one
abbrev pub is_old : Option Route → Route → Bool
is_old None route = false
is_old (Some last) route = nat_le route.generation last.generation
