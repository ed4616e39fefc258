use Rattle.std.proofs.Common.{◌≡◌}
use Rattle.sm_foreign.specs.Chiefs.{first_servers}
use Rattle.sm_foreign.proofs.chief.rows_of.Given as goal

abbrev pub invariant-loop-number : goal.invariant-loop-number
invariant-loop-number l = l.rows.items ≡ first_servers l.number
