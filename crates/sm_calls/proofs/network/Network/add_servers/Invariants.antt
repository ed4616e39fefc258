use Rattle.std.proofs.Common.{◌≡◌, map, take}
use Rattle.sm_calls.proofs.network.Network.add_servers.Given as goal

-- an inbox was made for each row so far
abbrev pub invariant-loop-row : goal.invariant-loop-row
invariant-loop-row g l =
    map (λ inbox. inbox.server) l.inboxes.items ≡ map (λ row. row.id) (take l.row-index l.rows)
