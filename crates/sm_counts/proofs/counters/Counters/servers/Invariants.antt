use Rattle.std.proofs.Common.{◌≡◌, ◌++◌, length, map, take}
use Rattle.sm_counts.specs.declared.counts.ServerCounts.{ServerCounts}
use Rattle.sm_counts.proofs.counters.Counters.servers.Given as goal

-- the servers of the rows, and of those that are left
abbrev pub invariant-loop-server : goal.invariant-loop-server
invariant-loop-server l =
    map (λ (row : ServerCounts). row.server) l.rows.items
    ++ take (length l.server-iterator.b.rest.now) l.server-iterator.a.rest.now
    ≡ take l.self.servers l.servers
