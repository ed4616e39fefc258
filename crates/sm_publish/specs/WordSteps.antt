-- The rule that a table of route words keeps, and the effect of each step on it.
use Rattle.std.specs.Prelude.{ℕ, ◌≡◌, ◌≤◌, None, List, length}
use mathlib.Core.Option.{some}
use lib.ListN.{get_elem?}
use Rattle.atomic_table.specs.Table.{State, Me, Step}
use Rattle.sm_ownership.specs.declared.route.Route.{Route}
use Rattle.sm_ownership.specs.Routes.{routes_of}
use Rattle.sm_publish.specs.declared.word_view.WordView.{WordView}
use Rattle.sm_publish.specs.RouteWords.{AreWordsOf, and_then, route_in}
use Rattle.sm_publish.specs.Seen.{Extends}

-- the words are those of these publications. The publisher, whose seat is the first, has seen all of them, and each
-- router the first ones
pub record AreKept (count : ℕ) (words : List ℕ) (views : List WordView) (publications : List Route) : Type 0 where
  pub sized : length words ≡ count
  pub words_are : AreWordsOf words publications
  pub publisher : get_elem? views 0 ≡ some (record { count = count; seen = publications })
  pub fit : (seat : ℕ) (view : WordView) → get_elem? views seat ≡ some view
      → (view.count ≡ count) × Extends publications view.seen

-- there is one list of publications
abbrev pub WordRuleHolds : {S : Type 0} → ℕ → State S WordView → Type 0
WordRuleHolds count table = (publications : List Route) × AreKept count table.words table.views publications

-- no shard beyond the last has a route
abbrev pub HasNoRouteBeyond : WordView → Type 0
HasNoRouteBeyond view = (shard : ℕ) → view.count ≤ shard → routes_of view.seen shard ≡ None

-- the publisher's load: the word that it finds is that of the shard's last route
abbrev pub RouteRecalled : {S : Type 0} → Step S → Me S WordView → ℕ → Me S WordView → Type 0
RouteRecalled step before found after =
    (after.0 ≡ before.0) × (route_in step.word found ≡ routes_of before.0.seen step.word)

-- the publisher's store, which publishes the route of the word
abbrev pub RouteStored : {S : Type 0} → Step S → Me S WordView → ℕ → Me S WordView → Type 0
RouteStored step before word after =
    (after.0 ≡ record { count = before.0.count; seen = and_then before.0.seen (route_in step.word word) })
    × HasNoRouteBeyond after.0

-- a router's load: it has then seen all publications, and the word that it finds is that of the shard's last route
-- among them
abbrev pub RouteRead : {S : Type 0} → Step S → Me S WordView → ℕ → Me S WordView → Type 0
RouteRead step before found after =
    Extends after.0.seen before.0.seen
    × (route_in step.word found ≡ routes_of after.0.seen step.word)
    × (after.0.count ≡ before.0.count)
    × HasNoRouteBeyond after.0
