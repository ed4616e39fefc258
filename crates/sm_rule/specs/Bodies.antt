-- How a body rests on all requests of its shard, of which the first ones came before its base.
use Rattle.std.specs.Prelude.{ℕ, ◌≡◌, ◌≤◌, List, [], ◌∷◌, ◌++◌, drop, fold, length, take}
use Rattle.sm_ownership.specs.declared.entry.Ending.{Ending}
use Rattle.sm_ownership.specs.declared.entry.Ending.TheVariants.{Nothing, Request, Checkpoint}

-- a body rests on these requests, of which so many came before its base: its base is the state after those, and it
-- keeps the others
abbrev pub Keeps : {S State Q : Type 0} → State → (State → Q → State) → (S → State) → (S → ℕ) → (S → List Q) → S → ℕ
    → List Q → Type 0
Keeps initial next base before requests body first all =
    (first ≤ length all)
    × (before body ≡ first)
    × (requests body ≡ drop first all)
    × (base body ≡ fold next initial (take first all))

-- all requests of a shard after an admission that ended so
abbrev pub all_after : {Q : Type 0} → List Q → Ending Q → List Q
all_after all Nothing = all
all_after all (Request request) = all ++ request ∷ []
all_after all Checkpoint = all

-- how many of them then come before the base
abbrev pub first_after : {Q : Type 0} → ℕ → List Q → Ending Q → ℕ
first_after first all Nothing = first
first_after first all (Request request) = first
first_after first all Checkpoint = length all

-- how an admission ended that found a body with the first of these lists and left it with the second: with no more
-- requests, with one more, or with none of the earlier ones
abbrev pub ending_between : {Q : Type 0} → List Q → List Q → Ending Q
ending_between [] [] = Nothing
ending_between [] (request ∷ more) = Request request
ending_between (one ∷ list) [] = Checkpoint
ending_between (one ∷ list) (other ∷ more) = ending_between list more
