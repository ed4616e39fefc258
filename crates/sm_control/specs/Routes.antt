-- The control's answer about a shard's route.
use Rattle.std.specs.Prelude.{ℕ, ◌≡◌, Option, Some, None, Result, Ok, Err, if◌then◌else◌, length, nat_lt, not}
use Rattle.sm_ranges.specs.Stand.{is_vacant, owner_of}
use Rattle.sm_ownership.specs.declared.route.Route.{Route}
use Rattle.sm_place.specs.Books.{BooksView, shard_at}
use Rattle.sm_rule.specs.Changes.{ChairLooks, ChairValue, record_at_chair}
use Rattle.sm_ownership.specs.declared.route_fault.RouteFault.{RouteFault}
use Rattle.sm_ownership.specs.declared.route_fault.RouteFault.TheVariants.{UnknownShard, WrongPhase}
use Rattle.sm_control.specs.Controls.{ControlValue}

-- the first reason for which a shard has no route
abbrev pub route_fault : BooksView → ℕ → Option RouteFault
route_fault books shard =
    if not (nat_lt shard (length books.shards)) then Some UnknownShard
    else if is_vacant (shard_at books.shards shard).stand then Some WrongPhase
    else None

-- the shard, its owner and its generation in all that the chair has seen
abbrev pub IsRouteOf : {Q : Type 0} → ChairValue Q → ℕ → Route → Type 0
IsRouteOf chair shard route =
    (route.shard ≡ shard) × (owner_of (record_at_chair chair shard).stand ≡ Some route.server)
    × (route.generation ≡ (record_at_chair chair shard).generation)

-- the control's answer if the fault is this one, or none
abbrev pub Routed : {Q : Type 0} → Option RouteFault → ControlValue Q → ControlValue Q → ℕ → Result Route RouteFault
    → Type 0
Routed (Some fault) before after shard result = (result ≡ Err fault) × (after ≡ before)
Routed None before after shard (Ok route) =
    ChairLooks before.chair after.chair × (after.desk ≡ before.desk) × IsRouteOf after.chair shard route
Routed None before after shard (Err fault) = ⊥
