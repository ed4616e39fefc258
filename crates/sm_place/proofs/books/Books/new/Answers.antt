use Rattle.std.proofs.Common.{◌∙◌, ◌*◌, ◌≤◌, arith, length, sym, rules}
use Rattle.std.proofs.Math.Nat.{mul-le-mul}
use Rattle.sm_rows.specs.declared.limits.TheConstants.{MAX_GROUPS}
use Rattle.sm_place.specs.declared.ranks.TheConstants.{NO_RANK}
use Rattle.sm_place.proofs.Starting.{AreBooks-no_fault, IsTallied-new}
use Rattle.sm_place.proofs.books.Books.new.Goals as goal

pub new-requires : goal.new-requires
new-requires c =
    let ok = AreBooks-no_fault c.args.servers.now c.args.groups.now c.args.shards.now c.args.domains.now
    (sym c.first.ensures ∙ c.in_default.is) in
    record { domains = ok.of_servers.domains; few = ok.of_servers.few }

pub new-requires-2-clause-rise : goal.new-requires-2-clause-rise
new-requires-2-clause-rise c =
    (AreBooks-no_fault c.args.servers.now c.args.groups.now c.args.shards.now c.args.domains.now
    (sym c.first.ensures ∙ c.in_default.is)).of_servers.ids_rise

pub overflow_mul-groups : goal.overflow_mul-groups
overflow_mul-groups c =
    let ok = AreBooks-no_fault c.args.servers.now c.args.groups.now c.args.shards.now c.args.domains.now
    (sym c.first.ensures ∙ c.in_default.is) in
    let few : c.width.result ≤ NO_RANK = rw c.width.ensures c.in_ok-ranks.ensures.few in
    let most : length c.args.groups.now * c.width.result ≤ MAX_GROUPS * NO_RANK = mul-le-mul ok.of_groups.few few in
    omega (arith, most)

pub invariant_of-result : goal.invariant_of-result
invariant_of-result c =
    let ok = AreBooks-no_fault c.args.servers.now c.args.groups.now c.args.shards.now c.args.domains.now
    (sym c.first.ensures ∙ c.in_default.is) in
    let up = c.in_ok-vec.ensures.items_if_clones_equal (λ y h. search rules) in
    let unloaded = c.in_ok-vec-2.ensures.items_if_clones_equal (λ y h. h) in
    let uncounted = c.in_ok-vec-3.ensures.items_if_clones_equal (λ y h. h) in
    rw (
      c.in_ok-new.ensures,
      c.in_ok-from_slice.ensures.items,
      c.in_ok-vacant_shards.ensures,
      up,
      unloaded,
      uncounted,
      c.width.ensures,
    )
    (IsTallied-new c.args.servers.now c.args.groups.now c.args.shards.now c.args.domains.now c.in_ok-ranks.ranks ok
    c.in_ok-ranks.ensures)
