use Rattle.std.proofs.Common.{◌≡◌, ◌≤◌, ◌∙◌, ap, arith, get_or}
use Rattle.std.proofs.lemmas.List.{get_or_default}
use Rattle.std.proofs.lemmas.List.Elements.{All-get_or}
use Rattle.sm_rows.specs.declared.limits.TheConstants.{MAX_DOMAIN}
use Rattle.sm_rows.specs.declared.server_row.ServerRow.{ServerRow}
use Rattle.sm_place.specs.Books.{no_server}
use Rattle.sm_place.proofs.Ranking.{IsRanked-new, IsRanked-next, AreRanked-all}
use Rattle.sm_place.proofs.ranks.Ranks.new.Goals as goal

pub loop-row-init : goal.loop-row-init
loop-row-init c =
    let empty = c.in_ok-vec.ensures.items_if_clones_equal (λ y h. h) in
    rw (empty, c.from.ensures) (IsRanked-new c.args.rows.now)

pub add-requires-clause-domain : goal.add-requires-clause-domain
add-requires-clause-domain c =
    let rows = c.args.rows.now in
    let i = c.loop-row.row-index in
    let row = c.row-item.is ∙ get_or_default rows i c.row-item.result no_server c.loop-row-test.true in
    let small : (get_or rows i no_server).domain ≤ MAX_DOMAIN =
    All-get_or (λ r. r.domain ≤ MAX_DOMAIN) rows i no_server c.loop-row-test.true c.requires.domains in
    omega (arith, ap (λ (r : ServerRow). r.domain) row, small, c.loop-row.invariant.len)

pub add-requires-clause-few : goal.add-requires-clause-few
add-requires-clause-few c = omega (arith, c.loop-row.invariant.few, c.loop-row-test.true, c.requires.few)

pub loop-row-preserved : goal.loop-row-preserved
loop-row-preserved c =
    let rows = c.args.rows.now in
    let i = c.loop-row.row-index in
    let row = c.row-item.is ∙ get_or_default rows i c.row-item.result no_server c.loop-row-test.true in
    let small : (get_or rows i no_server).domain ≤ MAX_DOMAIN =
    All-get_or (λ r. r.domain ≤ MAX_DOMAIN) rows i no_server c.loop-row-test.true c.requires.domains in
    let is : c.row-item.result.domain ≡ (get_or rows i no_server).domain = ap (λ (r : ServerRow). r.domain) row in
    rw c.add.ensures
    (IsRanked-next rows c.loop-row.ranks i c.row-item.result.domain c.loop-row-test.true c.requires.few
    (omega (arith, is, small)) is c.loop-row.invariant)

pub returns : goal.returns
returns c =
    AreRanked-all c.args.rows.now c.loop-row.ranks c.loop-row.row-index
    (omega (arith, c.loop-row-test.false)) c.requires.few
    c.loop-row.invariant
