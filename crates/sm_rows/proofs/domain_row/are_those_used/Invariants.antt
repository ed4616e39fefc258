use Rattle.std.proofs.Common.{◌+◌, map}
use Rattle.sm_rows.specs.declared.limits.TheConstants.{MAX_DOMAIN}
use Rattle.sm_rows.proofs.Domains.{IsLeft}
use Rattle.sm_rows.proofs.domain_row.are_those_used.Given as goal

abbrev pub invariant-loop-domain : goal.invariant-loop-domain
invariant-loop-domain l = IsLeft l.fn.servers (map (λ row. row.domain) l.rows) (MAX_DOMAIN + 1) l.at l.domain
