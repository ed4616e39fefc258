-- The publications that each thread has seen of a map.
use Rattle.std.specs.Prelude.{ℕ, ◌≡◌, List, ◌++◌}
use mathlib.Core.Option.{some}
use lib.ListN.{get_elem?}
use Rattle.atomic_table.specs.Seated.{TableId}
use Rattle.sm_ownership.specs.declared.route.Route.{Route}
use Rattle.sm_publish.specs.Publishing.{MapView}

-- a router: the table in which its map is, and the publications that it has seen there, in order
pub record RouterView : Type 0 where
  pub table : TableId
  pub seen : List Route

-- the publications begin with the earlier ones
abbrev pub Extends : List Route → List Route → Type 0
Extends publications earlier = (more : List Route) × (publications ≡ earlier ++ more)

-- the publications begin with those that each one has seen
abbrev pub IsSeen : MapView → List (List Route) → Type 0
IsSeen map views = (seat : ℕ) (seen : List Route) → get_elem? views seat ≡ some seen → Extends map.published seen

-- after the step it has seen everything that is published by then, which begins with all that it had seen before
abbrev pub Sees : List Route → MapView → MapView → List Route → Type 0
Sees before map after seen = Extends seen before × (seen ≡ after.published)
