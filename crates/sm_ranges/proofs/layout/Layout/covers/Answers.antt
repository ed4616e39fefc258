use Rattle.std.proofs.Common.{◌≡◌, ◌==◌, subst, sym, ◌∙◌}
use Rattle.sm_ranges.specs.Ranges.{IsLayout, shard_of}
use Rattle.sm_ranges.proofs.Covering.{is_shard_of}
use Rattle.sm_ranges.proofs.layout.Layout.covers.Goals as goal

pub returns : goal.returns
returns c =
    subst (λ bounds. c.is_within.result ≡ (shard_of bounds c.args.key.now == c.args.k))
    (c.deref.ensures.value ∙ c.self.view_is)
    (is_shard_of _ _ (subst IsLayout (sym c.deref.ensures.value) c.self.invariant) _ _ c.is_within.ensures.covers
    c.is_within.ensures.only)
