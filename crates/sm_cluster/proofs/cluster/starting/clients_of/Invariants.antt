use Rattle.std.proofs.Common.{◌≡◌, length}
use Rattle.std.specs.Arc.{arc_value}
use Rattle.std.specs.Prelude.{All, map}
use Rattle.sm_cluster.proofs.cluster.starting.clients_of.Given as goal

-- a client was made for each router so far
abbrev pub invariant-loop-router : goal.invariant-loop-router
invariant-loop-router g l =
    (length l.clients.items ≡ length l.yielded)
    × All (λ client. client.pass.board ≡ (arc_value l.ground).board) l.clients.items
    × All (λ client. client.bounds ≡ (arc_value l.ground).layout) l.clients.items
    × (map (λ client. client.router) l.clients.items ≡ l.yielded)
