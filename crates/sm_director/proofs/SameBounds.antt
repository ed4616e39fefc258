-- Two lists are the same if they have as many items, and the same at each place.
use Rattle.std.proofs.Common.{◌≡◌, ℕ, ◌<◌, List, length, ap, sym, ◌∙◌}
use Rattle.std.specs.Prelude.{slice_get, unwrap_or}
use Rattle.std.proofs.lemmas.List.{same_lists}
use Rattle.std.proofs.lemmas.Option.{unwrap_or-slice_get}

pub same_by_places : {X : Type 0} (xs ys : List X) → length xs ≡ length ys
    → ((j : ℕ) → j < length xs → slice_get xs j ≡ slice_get ys j) → xs ≡ ys
same_by_places xs ys long each =
    same_lists xs ys long (λ k d below.
    sym (unwrap_or-slice_get xs k d) ∙ ap (λ found. unwrap_or found d) (each k below) ∙ unwrap_or-slice_get ys k d)
