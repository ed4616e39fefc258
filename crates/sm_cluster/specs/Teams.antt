-- The workers of a cluster's servers.
use Rattle.std.specs.Prelude.{ℕ, ◌+◌, List, map}

-- the team of a server: how many workers were started for it
pub record TeamValue : Type 0 where
  pub server : ℕ
  pub workers : ℕ

-- a team with so many workers more
abbrev pub team_with : TeamValue → ℕ → TeamValue
team_with team more = record team { workers = team.workers + more }

-- for each of these servers a team of so many workers
abbrev pub teams_of : ℕ → List ℕ → List TeamValue
teams_of workers servers = map (λ server. record { server = server; workers = workers }) servers
