-- Answers to one more line, and to no line.
use Rattle.std.proofs.Common.{ℕ, List, [], ◌∷◌, ◌++◌, refl, ap, sym, ◌∙◌, append_assoc, append-nil, subst}
use Rattle.std.proofs.KnownBytes.{Appends-nil}
use Rattle.sm_lines.specs.Answers.{AnswersAll}
use Rattle.sm_lines.specs.Writing.{Writing, Sends}

-- the answers with one more line
pub AnswersAll-more : {E : Type 0} (answers : E → List ℕ → List ℕ → E → Type 0) (before mid after : E)
    (done : List (List ℕ)) (line text more : List ℕ)
    → AnswersAll answers before done text mid → answers mid line more after
    → AnswersAll answers before (done ++ line ∷ []) (text ++ more) after
AnswersAll-more {E} answers before mid after [] line text more all one =
    let P : E → Type 0 = λ x. answers x line more after in
    (more, [], after, ap (λ t. t ++ more) all.0 ∙ sym (append-nil more), subst P all.1 one, (refl, refl))
AnswersAll-more answers before mid after (l ∷ done) line text more all one = (
  all.0,
  all.1 ++ more,
  all.2,
  ap (λ t. t ++ more) all.3
      ∙ append_assoc all.0 all.1 more,
  all.4,
  AnswersAll-more answers all.2 mid after done line all.1 more all.5 one,
)

-- nothing was added
pub sends_none : (now : Writing) → Sends now now []
sends_none now = record { sent = []; wrote = Appends-nil now.written; split = append-nil now.waiting; unfailed = refl }
