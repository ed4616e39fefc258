use Rattle.std.proofs.Common.{◌≡◌}
use Rattle.sm_cluster.specs.Teams.{team_with}
use Rattle.sm_cluster.proofs.crew.Team.start.Given as goal

-- so many workers were started so far
abbrev pub invariant-loop : goal.invariant-loop
invariant-loop g l = l.self ≡ team_with l.fn.self l.counter
