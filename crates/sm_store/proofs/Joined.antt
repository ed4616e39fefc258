-- Deletions that are right one after the other are right as one.
use Rattle.std.proofs.Common.{List, [], ◌∷◌, ◌++◌}
use Rattle.std.specs.List.{AllByRecursion}

pub all_joined : {A : Type 0} (holds : A → Type 0) (xs ys : List A) → AllByRecursion holds xs
    → AllByRecursion holds ys → AllByRecursion holds (xs ++ ys)
all_joined holds [] ys first second = second
all_joined holds (x ∷ xs) ys first second = (first.0, all_joined holds xs ys first.1 second)
