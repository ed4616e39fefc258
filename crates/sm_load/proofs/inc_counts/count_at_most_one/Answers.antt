use Rattle.std.proofs.Common.{rules}
use Rattle.std.specs.List.{IsFirstAndRest}
use Rattle.sm_load.specs.IncCounts.{MayCount}
use Rattle.sm_load.proofs.Adding.{one_of}
use Rattle.sm_load.proofs.inc_counts.count_at_most_one.Goals as goal

pub returns-in-Some : goal.returns-in-Some
returns-in-Some g c =
    let cases : IsFirstAndRest c.args.items.now c.in-Some.item.now c.in-Some._none.now = search rules in
    one_of
    (MayCount g.F.Fn c.args.f.now) c.args.items.now c.in-Some.item.now c.in-Some._none.now c.count_one.result.acked
    c.count_one.result.refused c.count_one.new.item cases c.requires.short c.count_one.ensures
