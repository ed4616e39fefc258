use Rattle.std.proofs.Common.{◌+◌}
use Rattle.sm_rows.specs.declared.limits.TheConstants.{MAX_DOMAIN}
use Rattle.sm_rows.proofs.Domains.{AreMarked}
use Rattle.sm_rows.proofs.domain_row.domains_used.Given as goal

abbrev pub invariant-loop-server : goal.invariant-loop-server
invariant-loop-server l = AreMarked l.servers (MAX_DOMAIN + 1) l.server-index l.used
