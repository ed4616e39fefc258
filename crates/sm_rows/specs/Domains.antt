-- The domains of servers, and the rules of their rows, as tests.
use Rattle.std.specs.Prelude.{ℕ, ◌+◌, ◌-◌, ◌&&◌, ◌==◌, List, [], ◌∷◌, Bool, true, false, filter, map}
use Rattle.std.specs.List.{list_all, list_any, range_with_len}
use Rattle.sm_rows.specs.declared.limits.TheConstants.{MAX_DOMAIN, MAX_DOMAIN_DOWN}
use Rattle.sm_rows.specs.declared.domain_row.DomainRow.{DomainRow}
use Rattle.sm_rows.specs.declared.server_row.ServerRow.{ServerRow}
use Rattle.sm_rows.specs.Rows.{is_within}

-- a server is in the domain
abbrev pub is_used : List ServerRow → ℕ → Bool
is_used servers d = list_any (λ server. server.domain == d) servers

-- the domains of servers from low up to, but without, high, in rising order
abbrev pub domains_from : ℕ → ℕ → List ServerRow → List ℕ
domains_from low high servers = filter (is_used servers) (range_with_len low (high - low))

-- the domains of servers, in rising order
unfoldable pub domains_of : List ServerRow → List ℕ
domains_of servers = domains_from 0 (MAX_DOMAIN + 1) servers

-- the numbers are equal, one by one
abbrev pub are_same : List ℕ → List ℕ → Bool
are_same [] [] = true
are_same (x ∷ xs) (y ∷ ys) = (x == y) && are_same xs ys
are_same xs ys = false

-- each number of a domain's row is in its range
abbrev pub is_domain_row : DomainRow → Bool
is_domain_row row = is_within 0 MAX_DOMAIN row.domain && is_within 0 MAX_DOMAIN_DOWN row.down

-- the rules of domains: one row for each domain of a server, in rising order, each in its range
abbrev pub are_domains : List ServerRow → List DomainRow → Bool
are_domains servers rows = are_same (map (λ row. row.domain) rows) (domains_of servers) && list_all is_domain_row rows

-- the domain's row with this `down`
abbrev pub domain_with : ℕ → ℕ → DomainRow
domain_with down d = record { domain = d; down = down }

-- a row with this `down` for each domain of a server
abbrev pub equal_domains : ℕ → List ServerRow → List DomainRow
equal_domains down servers = map (domain_with down) (domains_of servers)
