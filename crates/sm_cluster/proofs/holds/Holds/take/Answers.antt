use Rattle.std.proofs.Common.{◌≡◌, ◌∙◌, None, ap, arith, length, rules, slice_index_or, slice_set, subst, sym}
use Rattle.sm_cluster.specs.Holding.{AreHoldsOn, hold_at}
use Rattle.sm_cluster.proofs.Holding.{at_place, held_of, holds_taken}
use Rattle.sm_cluster.proofs.holds.Holds.take.Goals as goal

pub returns-clause-held : goal.returns-clause-held
returns-clause-held g c =
    let items = c.self.inside.slots.items in
    let at = c.index.result in
    let lent = c.index_mut.result.now in
    let long : length items ≡ c.args.board.now.limits.count = ap length c.self.view_is ∙ c.requires.theirs.many in
    let at_is : at ≡ c.args.k = search rules in
    let shard = c.requires.shard in
    let there : lent ≡ slice_index_or items at lent = search rules in
    let found : hold_at items at ≡ lent = at_place items at lent None (omega (arith, long, at_is, shard)) there in
    held_of c.args.board.now c.args.self.now c.args.k c.take.result c.requires.theirs
    ((λ i. hold_at (sym c.self.view_is i) (sym at_is i)) ∙ (found ∙ sym c.take.ensures.value))

pub returns-clause-theirs : goal.returns-clause-theirs
returns-clause-theirs g c =
    let same : slice_set c.args.self.now c.args.k None
    ≡ slice_set c.self.inside.slots.items c.index.result c.take.new.self = search rules in
    subst (AreHoldsOn c.args.board.now) same
    (holds_taken c.args.board.now c.args.self.now c.args.k c.requires.theirs c.requires.shard)
