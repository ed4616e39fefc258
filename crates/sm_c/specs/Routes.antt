-- The statements about calls on publishers and routers.
use Rattle.std.specs.Prelude.{ℕ, ◌≡◌, ◌<◌, ◌⊎◌, Option, Some, None}
use Rattle.sm_ranges.specs.declared.limits.TheConstants.{MAX_SHARD, MAX_SHARDS}
use Rattle.sm_ownership.specs.declared.record.TheConstants.{MAX_GENERATION}
use Rattle.sm_ownership.specs.declared.route.Route.{Route}
use Rattle.sm_ownership.specs.declared.route_fault.RouteFault.{RouteFault}
use Rattle.sm_ownership.specs.declared.route_fault.RouteFault.TheVariants.{UnknownShard, WrongPhase, OldRoute}
use Rattle.sm_ownership.specs.declared.route_fault.RouteFault.TheVariants.{NoMemory}
use Rattle.sm_handle.specs.HandleState.{HandleState}
use Rattle.sm_handle.specs.PublishFault.{PublishFault}
use Rattle.sm_handle.specs.PublishFault.TheVariants.{Refused, WrongHandle}
use Rattle.sm_handle.specs.Routes.{ReadsHandleRoute, RefusesRoute}
use Rattle.sm_c.specs.declared.route_parts.RouteParts.{RouteParts}
use Rattle.sm_c.specs.Words.{IsNoServer}

-- the code of the reason for which no map has so many shards
abbrev pub HasNoMap : ℕ → ℕ → Type 0
HasNoMap count code = ((code ≡ 6) × (count ≡ 0)) ⊎ ((code ≡ 7) × (MAX_SHARDS < count))

-- the route that these numbers are
abbrev pub route_of_numbers : ℕ → ℕ → ℕ → Route
route_of_numbers shard server generation = record { shard = shard; server = server; generation = generation }

-- a publisher's reason not to publish a route
abbrev pub route_fault_code : RouteFault → ℕ
route_fault_code UnknownShard = 10
route_fault_code WrongPhase = 11
route_fault_code OldRoute = 64
route_fault_code NoMemory = 3

-- why a handle published no route
abbrev pub publish_fault_code : PublishFault → ℕ
publish_fault_code WrongHandle = 1
publish_fault_code (Refused fault) = route_fault_code fault

-- the numbers are no route, as the code says, or it is refused
abbrev pub RefusesNumbers : Option HandleState → ℕ → ℕ → ℕ → ℕ → Type 0
RefusesNumbers publisher shard server generation code =
    ((code ≡ 10) × (MAX_SHARD < shard))
    ⊎ ((code ≡ 2) × (IsNoServer server ⊎ (MAX_GENERATION < generation)))
    ⊎ ((fault : PublishFault) × RefusesRoute publisher (route_of_numbers shard server generation) fault
    × (code ≡ publish_fault_code fault))

-- the parts are the route's, or 0 if there is none
abbrev pub AreRouteParts : RouteParts → Option Route → Type 0
AreRouteParts parts (Some route) = (parts.server ≡ route.server) × (parts.generation ≡ route.generation)
AreRouteParts parts None = (parts.server ≡ 0) × (parts.generation ≡ 0)

-- the router has seen everything that it had seen, and maybe more, in which these are the parts of the shard's last
-- route
abbrev pub ReadsParts : Option HandleState → Option HandleState → ℕ → RouteParts → Type 0
ReadsParts before after shard parts =
    (route : Option Route) × ReadsHandleRoute before after shard route × AreRouteParts parts route
