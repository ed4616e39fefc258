use Rattle.std.proofs.Common.{◌≡◌, ◌<◌, ◌≤◌, length, false, sym, arith, below_more, slice_index}
use Rattle.sm_ranges.specs.Stand.{names}
use Rattle.sm_rows.specs.declared.limits.TheConstants.{MAX_GROUPS}
use Rattle.sm_tasks.specs.Approvals.{is_full, names_down}
use Rattle.sm_tasks.specs.Groups.{group_count, down_of}
use Rattle.sm_tasks.proofs.Tallies.{is_full-few, is_full-unnamed, is_full-yes, position-first, position-none}
use Rattle.sm_tasks.proofs.groups.full_group.Goals as goal
use Rattle.sm_tasks.proofs.groups.full_group.Goals.{else-named-g-gt0-via-then-named-g-gt0+else-down-g}
use Rattle.sm_tasks.proofs.groups.full_group.Goals.{else-named-g-gt0-via-else-named-g-gt0}

pub returns-then-down-g : goal.returns-then-down-g
returns-then-down-g c =
    let g = c.loop-g.g in
    let inside : g < length c.args.books.now.groups = rw (← c.groups-row-items.ensures) c.loop-g-test.true in
    let small : g < MAX_GROUPS = omega (arith, c.soundness.ensures.groups) in
    let named : 0 < group_count (λ stand. names stand c.args.a) c.args.books.now.shards g =
    rw (← c.named_by_group-named.ensures g small) c.if-named-g-gt0.true in
    let down : down_of c.args.books.now g < slice_index c.down_by_group-down.result g =
    rw c.groups-row-items.ensures at c.if-down-g.true in
    let over :
    down_of c.args.books.now g < group_count (names_down c.args.books.now c.args.a) c.args.books.now.shards g =
    rw (← c.down_by_group-down.ensures g small) down in
    sym (position-first (is_full c.args.books.now c.args.a) (length c.args.books.now.groups) g inside c.loop-g.invariant
    (is_full-yes c.args.books.now c.args.a g named over))

pub loop-g-preserved : goal.loop-g-preserved
loop-g-preserved c =
    let g = c.loop-g.g in
    let inside : g < length c.args.books.now.groups = rw (← c.groups-row-items.ensures) c.loop-g-test.true in
    let small : g < MAX_GROUPS = omega (arith, c.soundness.ensures.groups) in
    let here : is_full c.args.books.now c.args.a g ≡ false =
    elim c.else-named-g-gt0.branch [
      | else-named-g-gt0-via-then-named-g-gt0+else-down-g w ↦
          let few : slice_index c.down_by_group-down.result g ≤ down_of c.args.books.now g =
          rw c.groups-row-items.ensures at w.if-down-g.false in
          is_full-few c.args.books.now c.args.a g (rw (← c.down_by_group-down.ensures g small) few)
      | else-named-g-gt0-via-else-named-g-gt0 w ↦ is_full-unnamed c.args.books.now c.args.a g
          (rw (← c.named_by_group-named.ensures g small) w.if-named-g-gt0.false)
    ] in
    below_more _ _ c.loop-g.invariant here

pub returns : goal.returns
returns c =
    let done : length c.args.books.now.groups ≤ c.loop-g.g = rw c.groups-row-items.ensures at c.loop-g-test.false in
    sym (position-none (is_full c.args.books.now c.args.a) (length c.args.books.now.groups)
    (λ k h. c.loop-g.invariant k (omega arith)))
