-- The effect of publishing a shard's route.
use Rattle.std.specs.Prelude.{ℕ, ◌≡◌, Option, Some, None, Result, Ok, Err}
use Rattle.sm_control.specs.Routes.{IsRouteOf, route_fault}
use Rattle.sm_ownership.specs.declared.route.Route.{Route}
use Rattle.sm_ownership.specs.declared.route_fault.RouteFault.{RouteFault}
use Rattle.sm_ownership.specs.declared.route_fault.RouteFault.TheVariants.{NoMemory}
use Rattle.sm_publish.specs.Publishing.{publish_fault, with_route}
use Rattle.sm_rule.specs.Changes.{ChairLooks}
use Rattle.sm_cluster.specs.Clusters.{ClusterValue, TellsMore, cluster_publishing}

-- the chair has looked, and this is the shard's route; the desk stays, and so does everything except the control, the
-- map and the told history, which may have grown
abbrev pub ReadsRoute : {Q : Type 0} → ClusterValue Q → ClusterValue Q → ℕ → Route → Type 0
ReadsRoute before after shard route =
    ChairLooks before.control.chair after.control.chair × (after.control.desk ≡ before.control.desk)
    × TellsMore (cluster_publishing before after.control after.map) after × IsRouteOf after.control.chair shard route

-- why the map doesn't take a route whose first fault there is this one, or none
abbrev pub IsMapFault : Option RouteFault → RouteFault → Type 0
IsMapFault (Some first) fault = fault ≡ first
IsMapFault None fault = fault ≡ NoMemory

-- the effect and the answer of publishing for a shard that has no route for this reason, or has one
abbrev pub Published : {Q : Type 0} → Option RouteFault → ClusterValue Q → ClusterValue Q → ℕ
    → Result Route RouteFault → Type 0
Published (Some fault) before after shard result = (result ≡ Err fault) × (after ≡ before)
Published None before after shard (Ok route) =
    ReadsRoute before after shard route × (publish_fault before.map.map route ≡ None)
    × (after.map.map ≡ with_route before.map.map route)
Published None before after shard (Err fault) =
    (route : Route) × ReadsRoute before after shard route × IsMapFault (publish_fault before.map.map route) fault
    × (after.map ≡ before.map)

-- the effect and the answer of publishing: for a shard without a route, the reason; otherwise its route
abbrev pub HasPublished : {Q : Type 0} → ClusterValue Q → ℕ → Result Route RouteFault → ClusterValue Q → Type 0
HasPublished before shard result after =
    Published (route_fault before.control.desk.books shard) before after shard result
