use Rattle.std.proofs.Common.{◌≡◌, ◌+◌}
use Rattle.sm_body.specs.Service.{meaning_of}
use Rattle.sm_load.specs.Loads.{HasLearnedCounts}
use Rattle.sm_load.proofs.loading.inc_each.Given as goal

-- each inc so far was answered by a count, or not; the client has learned the counts
abbrev pub invariant-loop-number : goal.invariant-loop-number
invariant-loop-number g l =
    (l.counts.acked + l.counts.refused ≡ l.number)
    × HasLearnedCounts (meaning_of g.S.Service.initial g.S.Service.next g.S.Service.answer g.S.Service.key_of)
    (g.C.Counting.tells l.counting) (g.C.Counting.adds l.counting) l.fn.client l.counts.acked l.client
