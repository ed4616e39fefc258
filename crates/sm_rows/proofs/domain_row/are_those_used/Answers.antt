use Rattle.std.proofs.Common.{◌≡◌, ◌∙◌, ◌+◌, ◌<◌, arith, ap, map, sym, true, refl, nat_eq}
use Rattle.std.proofs.lemmas.List.{length-map}
use Rattle.sm_rows.specs.declared.limits.TheConstants.{MAX_DOMAIN}
use Rattle.sm_rows.specs.declared.domain_row.DomainRow.{DomainRow}
use Rattle.sm_rows.specs.Domains.{are_same, is_used}
use Rattle.sm_rows.proofs.Domains.{IsLeft-start, IsLeft-used, IsLeft-unused, IsLeft-other, IsLeft-end, domains_of-all}
use Rattle.sm_rows.proofs.domain_row.are_those_used.Goals as goal
use Rattle.sm_rows.proofs.domain_row.are_those_used.Goals.{then-used-domain+else-not-is_at, else-used-domain}

pub loop-domain-init : goal.loop-domain-init
loop-domain-init c =
    IsLeft-start c.args.servers.now (map (λ (row : DomainRow). row.domain) c.args.rows.now) (MAX_DOMAIN + 1)

pub returns-then-not-is_at : goal.returns-then-not-is_at
returns-then-not-is_at c =
    let servers = c.args.servers.now in
    let numbers = map (λ (row : DomainRow). row.domain) c.args.rows.now in
    let inside : c.loop-domain.domain < MAX_DOMAIN + 1 = omega (arith, c.loop-domain-test.true) in
    let used : is_used servers c.loop-domain.domain ≡ true =
    sym (c.domains_used-used.ensures c.loop-domain.domain (omega (arith, inside))) ∙ c.if-used-domain.true in
    sym (ap (are_same numbers) (domains_of-all servers (MAX_DOMAIN + 1) refl)
    ∙ IsLeft-other servers numbers (MAX_DOMAIN + 1) c.loop-domain.at c.loop-domain.domain inside used
    (sym c.is_at.ensures ∙ c.if-not-is_at.true) c.loop-domain.invariant)

pub loop-domain-preserved : goal.loop-domain-preserved
loop-domain-preserved c =
    let servers = c.args.servers.now in
    let numbers = map (λ (row : DomainRow). row.domain) c.args.rows.now in
    let inside : c.loop-domain.domain < MAX_DOMAIN + 1 = omega (arith, c.loop-domain-test.true) in
    let marked = c.domains_used-used.ensures c.loop-domain.domain (omega (arith, inside)) in
    elim c.if-used-domain.branch [
      | then-used-domain+else-not-is_at w ↦
          rw w.at-is
          (IsLeft-used servers numbers (MAX_DOMAIN + 1) c.loop-domain.at c.loop-domain.domain inside
          (sym marked ∙ w.if-used-domain.true)
          (sym w.is_at.ensures ∙ w.if-not-is_at.false) c.loop-domain.invariant)
      | else-used-domain w ↦
          rw w.at-is
          (IsLeft-unused servers numbers (MAX_DOMAIN + 1) c.loop-domain.at c.loop-domain.domain inside
          (sym marked ∙ w.if-used-domain.false)
          c.loop-domain.invariant)
    ]

pub returns : goal.returns
returns c =
    let servers = c.args.servers.now in
    let numbers = map (λ (row : DomainRow). row.domain) c.args.rows.now in
    ap (nat_eq c.loop-domain.at) (sym (length-map c.args.rows.now (λ (row : DomainRow). row.domain)))
    ∙ IsLeft-end servers numbers (MAX_DOMAIN + 1) c.loop-domain.at c.loop-domain.domain
    (omega (arith, c.loop-domain-test.false))
    c.loop-domain.invariant
    ∙ sym (ap (are_same numbers) (domains_of-all servers (MAX_DOMAIN + 1) refl))
