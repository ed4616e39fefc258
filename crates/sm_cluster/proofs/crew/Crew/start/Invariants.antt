use Rattle.std.proofs.Common.{◌≡◌, ◌++◌, map, take}
use Rattle.sm_cluster.specs.Teams.{teams_of}
use Rattle.sm_cluster.proofs.crew.Crew.start.Given as goal

-- a team was started for each inbox so far
abbrev pub invariant-loop-inbox : goal.invariant-loop-inbox
invariant-loop-inbox g l =
    l.self ≡ l.fn.self ++ teams_of l.workers (map (λ inbox. inbox.server) (take l.inbox-index l.inboxes))
