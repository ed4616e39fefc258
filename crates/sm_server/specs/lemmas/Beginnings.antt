-- A property of each entry of a history is one of each entry of its beginnings.
use Rattle.std.proofs.Common.{◌≢◌, ℕ, List, [], ◌∷◌, ◌++◌, subst}
use Rattle.std.specs.Prelude.{All}
use Rattle.std.proofs.lemmas.List.Elements.{All-cons, All-head, All-nil, All-tail}
use Rattle.sm_ownership.specs.declared.entry.Entry.{Entry}
use Rattle.sm_ownership.specs.History.{NoneBy}
use Rattle.sm_rule.specs.Views.{Begins}

all_before : {X : Type 0} (P : X → Type 0) (front more : List X) → All P (front ++ more) → All P front
all_before P [] more all = All-nil P
all_before P (x ∷ front) more all =
    All-cons P x front (All-head P x (front ++ more) all) (all_before P front more (All-tail P x (front ++ more) all))

-- a history without an actor began without it
pub none_begins : {Q : Type 0} (number : ℕ) (earlier later : List (Entry Q)) → Begins earlier later
    → NoneBy number later → NoneBy number earlier
none_begins number earlier later begins none =
    all_before (λ entry. entry.actor ≢ number) earlier begins.0 (subst (NoneBy number) begins.1 none)
