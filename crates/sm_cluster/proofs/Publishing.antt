-- The effect of publishing if the publisher refuses.
use Rattle.std.proofs.Common.{◌≡◌, ℕ, refl, rules, subst}
use Rattle.std.specs.Prelude.{IfNone, IfSome, IsOkUnless, Option, Some, None, Result, Ok, Err}
use Rattle.sm_control.specs.Routes.{Routed}
use Rattle.sm_ownership.specs.declared.route.Route.{Route}
use Rattle.sm_ownership.specs.declared.route_fault.RouteFault.{RouteFault}
use Rattle.sm_ownership.specs.declared.route_fault.RouteFault.TheVariants.{NoMemory}
use Rattle.sm_publish.specs.Publishing.{publish_fault, with_route}
use Rattle.sm_cluster.specs.Clusters.{ClusterValue, TellsMore, cluster_publishing}
use Rattle.sm_cluster.specs.Publications.{IsMapFault, Published}

same_err : {X E : Type 0} (result : Result X E) (x y : E) → result ≡ Err x → result ≡ Err y → x ≡ y
same_err result x y is also = search rules

not_ok : {X E : Type 0} (result : Result X E) (x : X) (e : E) → result ≡ Ok x → result ≡ Err e → ⊥
not_ok result x e is also = search rules

-- a refused route has the map's first fault, or a lack of memory if there is none
pub map_fault : (first : Option RouteFault) (result : Result (Unit {0}) RouteFault) (refused : RouteFault)
    → result ≡ Err refused → IfSome first (λ fault. result ≡ Err fault) → IfNone first (IsOkUnless result NoMemory)
    → IsMapFault first refused
map_fault (Some fault) result refused is some none = same_err result refused fault is some
map_fault None result refused is some none =
    subst (λ (one : Result (Unit {0}) RouteFault). IsOkUnless one NoMemory) is none

pub unpublished : {Q : Type 0} (fault : Option RouteFault) (before after : ClusterValue Q) (shard : ℕ) (route : Route)
    (refused : RouteFault) → Routed fault before.control after.control shard (Ok route)
    → IsMapFault (publish_fault before.map.map route) refused → after.map ≡ before.map
    → TellsMore (cluster_publishing before after.control after.map) after
    → Published fault before after shard (Err refused)
unpublished (Some fault) before after shard route refused routed why map frame =
    absurd (not_ok (Ok route) route fault refl routed.0)
unpublished None before after shard route refused routed why map frame =
    (route, (routed.0, routed.1, frame, routed.2), why, map)

-- a route that was published has no fault at the map
pub map_taken : (first : Option RouteFault) (result : Result (Unit {0}) RouteFault) (x : Unit {0}) → result ≡ Ok x
    → IfSome first (λ fault. result ≡ Err fault) → first ≡ None
map_taken (Some fault) result x is some = absurd (not_ok result x fault is some)
map_taken None result x is some = refl

pub published : {Q : Type 0} (fault : Option RouteFault) (before after : ClusterValue Q) (shard : ℕ) (route : Route)
    → Routed fault before.control after.control shard (Ok route) → publish_fault before.map.map route ≡ None
    → after.map.map ≡ with_route before.map.map route
    → TellsMore (cluster_publishing before after.control after.map) after
    → Published fault before after shard (Ok route)
published (Some fault) before after shard route routed none map frame =
    absurd (not_ok (Ok route) route fault refl routed.0)
published None before after shard route routed none map frame = ((routed.0, routed.1, frame, routed.2), none, map)
