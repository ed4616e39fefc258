use Rattle.std.proofs.Common.{◌∙◌, ◌+◌, ◌<◌, arith, sym, refl}
use Rattle.sm_rows.specs.declared.limits.TheConstants.{MAX_DOMAIN}
use Rattle.sm_rows.proofs.Domains.{made-start, made-used, made-unused, made-end}
use Rattle.sm_rows.proofs.domain_row.equal_domains.Goals as goal
use Rattle.sm_rows.proofs.domain_row.equal_domains.Goals.{then-used-domain+in_ok-push, else-used-domain}

pub loop-domain-init : goal.loop-domain-init
loop-domain-init c = rw c.new-rows.ensures.items (made-start c.args.servers.now c.args.down (MAX_DOMAIN + 1) refl)

pub loop-domain-preserved : goal.loop-domain-preserved
loop-domain-preserved c =
    let servers = c.args.servers.now in
    let inside : c.loop-domain.domain < MAX_DOMAIN + 1 = omega (arith, c.loop-domain-test.true) in
    let marked = c.domains_used-used.ensures c.loop-domain.domain (omega (arith, inside)) in
    elim c.if-used-domain.branch [
      | then-used-domain+in_ok-push w ↦
          rw (w.rows-is, w.in_ok-push.ensures.items)
          (made-used servers c.loop-domain.rows.items c.args.down (MAX_DOMAIN + 1) c.loop-domain.domain inside
          (sym marked ∙ w.if-used-domain.true)
          c.loop-domain.invariant)
      | else-used-domain w ↦
          rw w.rows-is
          (made-unused servers c.loop-domain.rows.items c.args.down (MAX_DOMAIN + 1) c.loop-domain.domain inside
          (sym marked ∙ w.if-used-domain.false)
          c.loop-domain.invariant)
    ]

pub returns : goal.returns
returns c =
    made-end c.args.servers.now c.loop-domain.rows.items c.args.down (MAX_DOMAIN + 1) c.loop-domain.domain
    (omega (arith, c.loop-domain-test.false)) c.loop-domain.invariant
