-- The ranks of the domains that have servers.
use Rattle.std.specs.Prelude.{ℕ, List, ◌≡◌, ◌+◌, ◌*◌, ◌<◌, ◌≤◌, ◌==◌, if◌then◌else◌, slice_index_or, slice_set}
use Rattle.sm_rows.specs.declared.server_row.ServerRow.{ServerRow}
use Rattle.sm_place.specs.declared.ranks.TheConstants.{NO_RANK}
use Rattle.sm_place.specs.Books.{IsKnown, domain_of}

-- the rank of each domain, or that it has none; and how many domains have one
pub record Ranking : Type 0 where
  pub ranks : List ℕ
  pub width : ℕ

-- the rank of the domain
abbrev pub rank_of : Ranking → ℕ → ℕ
rank_of ranking d = slice_index_or ranking.ranks d NO_RANK

-- if the domain had no rank, it gets the next one
abbrev pub with_rank : Ranking → ℕ → Ranking
with_rank ranking d =
    if rank_of ranking d == NO_RANK
    then record { ranks = slice_set ranking.ranks d ranking.width; width = ranking.width + 1 }
    else ranking

-- the counter of the group and the domain
abbrev pub domain_cell : Ranking → ℕ → ℕ → ℕ
domain_cell ranking g d = g * ranking.width + rank_of ranking d

-- each server's domain has a rank below the width, and no two domains have the same rank
pub record AreRanked (servers : List ServerRow) (ranking : Ranking) : Type 0 where
  pub few : ranking.width ≤ NO_RANK
  pub at : (a : ℕ) → IsKnown servers a → rank_of ranking (domain_of servers a) < ranking.width
  pub apart : (d e : ℕ) → rank_of ranking d < ranking.width → rank_of ranking e ≡ rank_of ranking d → e ≡ d
