use Rattle.std.proofs.Common.{◌≡◌, ◌<◌, ◌+◌, ◌∙◌, ap, arith, length, get_or}
use Rattle.std.proofs.lemmas.List.{get_or_default}
use Rattle.sm_ranges.specs.declared.limits.TheConstants.{MAX_SERVER}
use Rattle.sm_rows.specs.declared.server_row.ServerRow.{ServerRow}
use Rattle.sm_place.specs.Books.{no_server}
use Rattle.sm_place.proofs.Placing.{IsPlacedUpTo-new, IsPlacedUpTo-next, HasPlaces-filled}
use Rattle.sm_place.proofs.roster.Roster.new.Goals as goal

pub loop-at-init : goal.loop-at-init
loop-at-init c =
    let empty = c.in_ok-places.ensures.items_if_clones_equal (λ y h. h) in
    rw empty (IsPlacedUpTo-new c.args.rows.now (MAX_SERVER + 1) (length c.args.rows.now) cc)

pub loop-at-preserved : goal.loop-at-preserved
loop-at-preserved c =
    let rows = c.args.rows.now in
    let i = c.loop-at.at in
    let row : c.index-rows-at.result ≡ get_or rows i no_server =
    c.index-rows-at.is ∙ get_or_default rows i c.index-rows-at.result no_server c.loop-at-test.true in
    let id : c.number.result ≡ (get_or rows i no_server).id =
    c.number.ensures.value ∙ ap (λ (r : ServerRow). r.id) row in
    let small : c.number.result < MAX_SERVER + 1 = omega (arith, c.number.ensures.value, c.number.ensures.in_range) in
    let here : c.from.result ≡ c.number.result = cc in
    rw here (IsPlacedUpTo-next rows
    (MAX_SERVER + 1) c.loop-at.places.items i c.number.result c.requires.rise c.loop-at-test.true
    id small c.loop-at.invariant)

pub invariant_of-result : goal.invariant_of-result
invariant_of-result c =
    let all : c.loop-at.at ≡ length c.args.rows.now = omega (arith, c.loop-at-test.false, c.loop-at.auto.at-end) in
    rw c.in_ok-from_slice.ensures.items
    (HasPlaces-filled c.args.rows.now c.loop-at.places.items c.loop-at.at all c.loop-at.invariant)
