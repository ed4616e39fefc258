use Rattle.std.proofs.Common.{◌+◌, ◌<◌, ◌^◌, List, length, rules, subst, length-append}
use Rattle.sm_load.specs.IncCounts.{MayCount}
use Rattle.sm_load.proofs.Adding.{sums_fit, both_of}
use Rattle.sm_load.proofs.inc_counts.+halves.Goals as goal

pub count_all-added_up-requires-clause-acked : goal.count_all-added_up-requires-clause-acked
count_all-added_up-requires-clause-acked g t c =
    let cut = c.split_at_mut-front in
    let short : length cut.result.0.now + length cut.result.1.now < 2 ^ 32 =
    rw (← length-append cut.result.0.now cut.result.1.now)
    (subst (λ (list : List g.row.T.Denot). length list < 2 ^ 32) cut.ensures.value c.requires.short) in
    let each : c.args.each < 2 ^ 32 = search rules in
    (sums_fit (MayCount g.F.Fn c.args.f.now) c.args.each
    c.requires.each cut.result.0.now c.count_all-one.result.acked c.count_all-one.result.refused
    c.count_all-one.new.items
    cut.result.1.now c.count_all-two.result.acked c.count_all-two.result.refused c.count_all-two.new.items each short
    c.count_all-one.ensures c.count_all-two.ensures).0

pub count_all-added_up-requires-clause-refused : goal.count_all-added_up-requires-clause-refused
count_all-added_up-requires-clause-refused g t c =
    let cut = c.split_at_mut-front in
    let short : length cut.result.0.now + length cut.result.1.now < 2 ^ 32 =
    rw (← length-append cut.result.0.now cut.result.1.now)
    (subst (λ (list : List g.row.T.Denot). length list < 2 ^ 32) cut.ensures.value c.requires.short) in
    let each : c.args.each < 2 ^ 32 = search rules in
    (sums_fit (MayCount g.F.Fn c.args.f.now) c.args.each
    c.requires.each cut.result.0.now c.count_all-one.result.acked c.count_all-one.result.refused
    c.count_all-one.new.items
    cut.result.1.now c.count_all-two.result.acked c.count_all-two.result.refused c.count_all-two.new.items each short
    c.count_all-one.ensures c.count_all-two.ensures).1

pub count_all-returns-then-threads-lt2 : goal.count_all-returns-then-threads-lt2
count_all-returns-then-threads-lt2 g t c =
    let cut = c.split_at_mut-front in
    both_of (MayCount g.F.Fn c.args.f.now)
    c.args.items.now cut.result.0.now c.count_all-one.result.acked c.count_all-one.result.refused
    c.count_all-one.new.items
    cut.result.1.now c.count_all-two.result.acked c.count_all-two.result.refused c.count_all-two.new.items
    c.added_up.result.acked c.added_up.result.refused
    cut.ensures.value c.added_up.ensures.acked c.added_up.ensures.refused c.count_all-one.ensures
    c.count_all-two.ensures

pub count_all-added_up-requires-2-clause-acked : goal.count_all-added_up-requires-2-clause-acked
count_all-added_up-requires-2-clause-acked g t c =
    let cut = c.split_at_mut-front in
    let short : length cut.result.0.now + length cut.result.1.now < 2 ^ 32 =
    rw (← length-append cut.result.0.now cut.result.1.now)
    (subst (λ (list : List g.row.T.Denot). length list < 2 ^ 32) cut.ensures.value c.requires.short) in
    let each : c.args.each < 2 ^ 32 = search rules in
    (sums_fit (MayCount g.F.Fn c.args.f.now) c.args.each
    c.requires.each cut.result.0.now c.count_halves.result.0.acked c.count_halves.result.0.refused
    c.count_halves.new.front
    cut.result.1.now c.count_halves.result.1.acked c.count_halves.result.1.refused c.count_halves.new.back each short
    c.count_halves.ensures.front c.count_halves.ensures.back).0

pub count_all-added_up-requires-2-clause-refused : goal.count_all-added_up-requires-2-clause-refused
count_all-added_up-requires-2-clause-refused g t c =
    let cut = c.split_at_mut-front in
    let short : length cut.result.0.now + length cut.result.1.now < 2 ^ 32 =
    rw (← length-append cut.result.0.now cut.result.1.now)
    (subst (λ (list : List g.row.T.Denot). length list < 2 ^ 32) cut.ensures.value c.requires.short) in
    let each : c.args.each < 2 ^ 32 = search rules in
    (sums_fit (MayCount g.F.Fn c.args.f.now) c.args.each
    c.requires.each cut.result.0.now c.count_halves.result.0.acked c.count_halves.result.0.refused
    c.count_halves.new.front
    cut.result.1.now c.count_halves.result.1.acked c.count_halves.result.1.refused c.count_halves.new.back each short
    c.count_halves.ensures.front c.count_halves.ensures.back).1

pub count_all-returns : goal.count_all-returns
count_all-returns g t c =
    let cut = c.split_at_mut-front in
    both_of (MayCount g.F.Fn c.args.f.now)
    c.args.items.now cut.result.0.now c.count_halves.result.0.acked c.count_halves.result.0.refused
    c.count_halves.new.front
    cut.result.1.now c.count_halves.result.1.acked c.count_halves.result.1.refused c.count_halves.new.back
    c.added_up-2.result.acked c.added_up-2.result.refused
    cut.ensures.value c.added_up-2.ensures.acked c.added_up-2.ensures.refused c.count_halves.ensures.front
    c.count_halves.ensures.back
