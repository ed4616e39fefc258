use Rattle.std.proofs.Common.{◌≡◌, ◌∙◌, None, Some, ap, arith, length, rules, slice_index_or, slice_set, subst, sym}
use Rattle.sm_cluster.specs.Holding.{AreHoldsOn, hold_at}
use Rattle.sm_cluster.proofs.Holding.{at_place, holds_put}
use Rattle.sm_cluster.proofs.holds.Holds.put.Goals as goal

pub end-requires-after_bounds : goal.end-requires-after_bounds
end-requires-after_bounds g c κs within =
    let items = c.self.inside.slots.items in
    let at = c.index.result in
    let long : length items ≡ c.args.board.now.limits.count = ap length c.self.view_is ∙ c.requires.theirs.many in
    let at_is : at ≡ c.args.k = search rules in
    let shard = c.requires.shard in
    let there : c.index_mut.result.now ≡ slice_index_or items at c.index_mut.result.now = search rules in
    let found : hold_at items at ≡ Some c.in-Some.other = at_place items at c.index_mut.result.now None
    (omega (arith, long, at_is, shard)) there ∙ sym c.in-Some.ensures.value in
    (c.requires.theirs.each c.args.k c.in-Some.other ((λ i. hold_at (sym c.self.view_is i) (sym at_is i)) ∙ found)).0

pub returns-clause-theirs : goal.returns-clause-theirs
returns-clause-theirs g c =
    let same : slice_set c.args.self.now c.args.k (Some c.args.hold)
    ≡ slice_set c.self.inside.slots.items c.index.result c.replace.new.self = search rules in
    subst (AreHoldsOn c.args.board.now) same
    (holds_put c.args.board.now c.args.self.now c.args.k c.args.hold c.requires.theirs c.requires.shard c.requires.board
    c.requires.holds)
