use Rattle.std.proofs.Common.{◌≡◌, ◌∙◌, sym, ap, refl, List, [], ◌∷◌, None, drop}
use Rattle.sm_script.specs.Grammar.{first_fault}
use Rattle.sm_script.specs.declared.shape.Shape.{Shape}
use Rattle.sm_script.proofs.shape.first_fault.Goals as goal

no_words : (shapes : List Shape) → None ≡ first_fault shapes []
no_words [] = refl
no_words (shape ∷ shapes) = refl

pub returns-in-None : goal.returns-in-None
returns-in-None c =
    no_words (drop c.loop-shape.shape-index c.args.shapes.now)
    ∙ sym (c.loop-shape.invariant
    ∙ ap (first_fault (drop c.loop-shape.shape-index c.args.shapes.now)) c.in-None.ensures.0)
