-- The effects of calls on the handles of publishers and routers.
use Rattle.std.specs.Prelude.{ℕ, ◌≡◌, ◌⊎◌, ⊤, [], Option, Some, None}
use Rattle.sm_ownership.specs.declared.route.Route.{Route}
use Rattle.sm_ownership.specs.Routes.{routes_of}
use Rattle.sm_publish.specs.Publishing.{publish_fault, with_route}
use Rattle.sm_publish.specs.Seen.{Extends}
use Rattle.sm_handle_state.specs.declared.act_fault.ActFault.{ActFault}
use Rattle.sm_handle_state.specs.declared.act_fault.ActFault.TheVariants.{WrongHandle, NoMemory}
use Rattle.sm_handle_state.specs.declared.publish_fault.PublishFault.{PublishFault}
use Rattle.sm_handle_state.specs.declared.publish_fault.PublishFault.TheVariants.{Refused, WrongHandle as NotPublisher}
use Rattle.sm_handle_state.specs.declared.handle_state.HandleState.{HandleState}
use Rattle.sm_handle_state.specs.declared.handle_state.HandleState.TheVariants.{Publisher, Router}

-- the handle keeps a publisher of so many shards, none of which has a route
abbrev pub IsNewPublisher : Option HandleState → ℕ → Type 0
IsNewPublisher (Some (Publisher publisher)) count = publisher.map ≡ record { count = count; published = [] }
IsNewPublisher state count = ⊥

-- the handle keeps no publisher
abbrev pub KeepsNoPublisher : Option HandleState → Type 0
KeepsNoPublisher (Some (Publisher publisher)) = ⊥
KeepsNoPublisher state = ⊤

-- a router of the publisher's map, which has seen all that was published
abbrev pub IsRouterOf : Option HandleState → Option HandleState → Type 0
IsRouterOf (Some (Publisher publisher)) (Some (Router router)) =
    router ≡ record { table = publisher.table; seen = publisher.map.published }
IsRouterOf publisher router = ⊥

-- why there is no router: the handle keeps no publisher, or memory was refused
abbrev pub GivesNoRouter : Option HandleState → ActFault → Type 0
GivesNoRouter state fault = ((fault ≡ WrongHandle) × KeepsNoPublisher state) ⊎ (fault ≡ NoMemory)

-- the publisher has nothing against the route, and has published it
abbrev pub PublishesRoute : Option HandleState → Option HandleState → Route → Type 0
PublishesRoute (Some (Publisher before)) (Some (Publisher after)) route =
    (publish_fault before.map route ≡ None) × (after.table ≡ before.table) × (after.map ≡ with_route before.map route)
PublishesRoute before after route = ⊥

-- why no route is published: this is the publisher's first reason, or the handle keeps none
abbrev pub RefusesRoute : Option HandleState → Route → PublishFault → Type 0
RefusesRoute (Some (Publisher publisher)) route (Refused fault) = publish_fault publisher.map route ≡ Some fault
RefusesRoute (Some (Publisher publisher)) route NotPublisher = ⊥
RefusesRoute state route fault = fault ≡ NotPublisher

-- the router of the same map has seen everything that it had seen, and maybe more, in which this is the shard's last
-- route
abbrev pub ReadsHandleRoute : Option HandleState → Option HandleState → ℕ → Option Route → Type 0
ReadsHandleRoute (Some (Router before)) (Some (Router after)) shard route =
    (after.table ≡ before.table) × Extends after.seen before.seen × (route ≡ routes_of after.seen shard)
ReadsHandleRoute before after shard route = ⊥

-- the handle keeps no router
abbrev pub KeepsNoRouter : Option HandleState → Type 0
KeepsNoRouter (Some (Router router)) = ⊥
KeepsNoRouter state = ⊤
