-- Counters at the places that a stand names.
use Rattle.std.specs.Prelude.{ℕ, Bool, Option, Some, None, List, ◌<◌, ◌==◌, ◌||◌, if◌then◌else◌, option_map, ◌≡◌}
use Rattle.sm_ranges.specs.Stand.{passes, owner_of, other_of}
use Rattle.sm_ranges.specs.declared.stand.Stand.{Stand}
use Rattle.sm_rows.specs.declared.server_row.ServerRow.{ServerRow}
use Rattle.sm_place.specs.Books.{place_of, domain_of}
use Rattle.sm_place.specs.Ranks.{Ranking, domain_cell}

-- the counter of the group and the server's domain
abbrev pub cell_of : List ServerRow → Ranking → ℕ → ℕ → ℕ
cell_of servers ranking g a = domain_cell ranking g (domain_of servers a)

-- x and y are the places of the servers that the stand names
pub record ArePlaces (servers : List ServerRow) (stand : Stand) (x y : Option ℕ) : Type 0 where
  pub owner : x ≡ option_map (place_of servers) (owner_of stand)
  pub other : y ≡ option_map (place_of servers) (other_of stand)

-- x and y are the counters of the group and the domains of the servers that the stand names
pub record AreCells (servers : List ServerRow) (ranking : Ranking) (g : ℕ) (stand : Stand)
    (x y : Option ℕ) : Type 0 where
  pub owner : x ≡ option_map (cell_of servers ranking g) (owner_of stand)
  pub other : y ≡ option_map (cell_of servers ranking g) (other_of stand)

-- whether one of the two places is i
abbrev pub is_hit : Option ℕ → Option ℕ → ℕ → Bool
is_hit first second i = passes (λ at. at == i) first || passes (λ at. at == i) second

-- the amount that place i gets
abbrev pub amount_at : Option ℕ → Option ℕ → ℕ → ℕ → ℕ
amount_at first second amount i = if is_hit first second i then amount else 0

-- if there is a place, it is below n
abbrev pub AreInside : ℕ → Option ℕ → Type 0
AreInside n None = Unit {0}
AreInside n (Some at) = at < n
