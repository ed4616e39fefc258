use Rattle.std.proofs.Common.{◌+◌, arith}
use Rattle.sm_rows.specs.declared.limits.TheConstants.{MAX_DOMAIN}
use Rattle.sm_rows.proofs.Domains.{AreMarked-none, is_used-marked}
use Rattle.sm_rows.proofs.domain_row.domains_used.Goals as goal

pub loop-server-init : goal.loop-server-init
loop-server-init c = AreMarked-none c.args.servers.now (MAX_DOMAIN + 1)

pub returns : goal.returns
returns c = λ d h.
    is_used-marked c.args.servers.now (MAX_DOMAIN + 1) c.loop-server.server-index c.loop-server.used
    (omega (arith, c.loop-server-test.false))
    c.loop-server.invariant d (omega (arith, h))
