-- Counts of a domain's servers.
use Rattle.std.specs.Prelude.{ℕ, Bool, ◌==◌, ◌&&◌, count_by, find, zip, unwrap_or}
use Rattle.std.specs.Option.{option_map}
use Rattle.sm_rows.specs.declared.server_row.ServerRow.{ServerRow}
use Rattle.sm_place.specs.declared.server_state.ServerState.{ServerState}
use Rattle.sm_place.specs.Books.{BooksView}

-- whether the server is in the domain and its state passes the test
abbrev pub is_server_of : (ServerState → Bool) → ℕ → ServerRow × ServerState → Bool
is_server_of test d server = (server.0.domain == d) && test server.1

-- how many servers of the domain are in a state that passes the test
abbrev pub domain_count : (ServerState → Bool) → BooksView → ℕ → ℕ
domain_count test books d = count_by (is_server_of test d) (zip books.servers books.states)

-- how many servers of the domain may be down for planned restarts at the same time; 0 if the domain has no row
abbrev pub domain_down : BooksView → ℕ → ℕ
domain_down books d = unwrap_or (option_map (λ row. row.down) (find (λ row. row.domain == d) books.domains)) 0
