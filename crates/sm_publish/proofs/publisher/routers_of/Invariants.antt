use Rattle.std.proofs.Common.{◌≡◌, ◌≤◌, [], replicate}
use Rattle.std.specs.Prelude.{vec_capacity}
use Rattle.sm_publish.proofs.publisher.routers_of.Given as goal

-- a router for each turn, none of which has seen anything, and room for all of them
abbrev pub invariant-loop : goal.invariant-loop
invariant-loop l = (l.made.items ≡ replicate l.counter (record { table = l.writer.desk.place.table_id; seen = [] }))
    × (l.count ≤ vec_capacity l.made)
