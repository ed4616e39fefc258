-- The publications of a map, and the routes that are refused.
use Rattle.std.specs.Prelude.{ℕ, Option, Some, None, nat_lt, not, if◌then◌else◌, List, [], ◌∷◌, ◌++◌}
use Rattle.atomic_table.specs.Seated.{TableId}
use Rattle.sm_ownership.specs.declared.route.Route.{Route}
use Rattle.sm_ownership.specs.Routes.{is_old, routes_of}
use Rattle.sm_ownership.specs.declared.route_fault.RouteFault.{RouteFault}
use Rattle.sm_ownership.specs.declared.route_fault.RouteFault.TheVariants.{UnknownShard, OldRoute}

-- how many shards a map has, and its publications, in order
pub record MapView : Type 0 where
  pub count : ℕ
  pub published : List Route

-- a publisher: the table in which its map is, and the map
pub record PublisherView : Type 0 where
  pub table : TableId
  pub map : MapView

-- the map after one more publication
abbrev pub with_route : MapView → Route → MapView
with_route map route = record { count = map.count; published = map.published ++ route ∷ [] }

-- the map takes only routes of its own shards
abbrev pub taken : MapView → Route → MapView
taken map route = if nat_lt route.shard map.count then with_route map route else map

-- the first reason why a route isn't published
abbrev pub publish_fault : MapView → Route → Option RouteFault
publish_fault map route =
    if not (nat_lt route.shard map.count) then Some UnknownShard
    else if is_old (routes_of map.published route.shard) route then Some OldRoute
    else None
