use Rattle.std.proofs.Common.{◌≡◌, drop}
use Rattle.sm_place.specs.Plans.{first_fit, servers_but}
use Rattle.sm_place.proofs.draft.Draft.first_fit.Given as goal

abbrev pub invariant-loop-at : goal.invariant-loop-at
invariant-loop-at l =
    first_fit l.fn.self l.k (servers_but l.from (drop l.at l.fn.self.servers))
    ≡ first_fit l.fn.self l.k (servers_but l.from l.fn.self.servers)
