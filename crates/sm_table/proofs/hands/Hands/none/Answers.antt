use Rattle.std.proofs.Common.{[], ◌∷◌, ◌++◌, None, ap, ◌∙◌}
use Rattle.std.proofs.lemmas.List.{replicate_more}
use Rattle.sm_table.proofs.hands.Hands.none.Goals as goal

pub loop-preserved : goal.loop-preserved
loop-preserved g c =
    c.in_ok-push.ensures.items ∙ ap (λ hands. hands ++ None ∷ []) c.loop.invariant ∙ replicate_more c.loop.counter None
