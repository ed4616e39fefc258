use Rattle.std.proofs.Common.{◌≡◌, ◌+◌, ◌++◌, map}
use Rattle.sm_rows.specs.declared.limits.TheConstants.{MAX_DOMAIN}
use Rattle.sm_rows.specs.Domains.{domain_with, domains_from, equal_domains}
use Rattle.sm_rows.proofs.domain_row.equal_domains.Given as goal

abbrev pub invariant-loop-domain : goal.invariant-loop-domain
invariant-loop-domain l = l.rows.items ++ map (domain_with l.down) (domains_from l.domain (MAX_DOMAIN + 1) l.fn.servers)
    ≡ equal_domains l.down l.fn.servers
