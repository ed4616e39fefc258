-- How a body has changed since its admission, and how the entry says it.
use Rattle.std.proofs.Common.{◌≡◌, ℕ, ◌<◌, ◌≤◌, List, [], ◌∷◌, ◌++◌, length, refl, ap, ◌∙◌, subst, arith, length-drop}
use Rattle.std.specs.Prelude.{All, Option, Some, None, IfSome}
use Rattle.std.proofs.lemmas.List.{drop-append-le}
use Rattle.std.proofs.lemmas.List.Elements.{All-nil, All-cons, All-head, All-tail}
use Rattle.std.proofs.Math.Seq.{drop-length}
use Rattle.sm_ownership.specs.declared.entry.Ending.{Ending}
use Rattle.sm_ownership.specs.declared.entry.Ending.TheVariants.{Nothing, Request, Checkpoint}
use Rattle.sm_rule.specs.declared.limits.Limits.{Limits}
use Rattle.sm_rule.specs.declared.view.HeldShard.{HeldShard}
use Rattle.sm_rule.specs.Bodies.{Keeps, all_after, ending_between, first_after}
use Rattle.sm_rule.specs.Passes.{IsHeldOf}
use Rattle.sm_rule.specs.Views.{EndsWith, all_held, first_held, list_held}

-- a body that rests on these requests, under equal names
pub rests_at : {S Q : Type 0} (rests : S → ℕ → List Q → Type 0) (body : S) (first later : ℕ) (all longer : List Q)
    → first ≡ later → all ≡ longer → rests body first all → rests body later longer
rests_at rests body first later all longer firsts alls is =
    subst (λ (pair : ℕ × List _). rests body pair.0 pair.1) (λ i. (firsts i, alls i)) is

-- the requests on which it rests at the end of the admission
pub rests_after : {S Q : Type 0} (rests : S → ℕ → List Q → Type 0) (held : Option (HeldShard Q)) (body : S)
    (ending : Ending Q) → EndsWith rests held body ending
    → rests body (first_after (first_held held) (all_held held) ending) (all_after (all_held held) ending)
rests_after rests held body Nothing is = is
rests_after rests held body (Request request) is = is
rests_after rests held body Checkpoint is = is.1

-- a pass's hold is in bounds
pub held_bounds : {Q : Type 0} (limits : Limits) (held : Option (HeldShard Q)) → IfSome held (IsHeldOf limits)
    → (first_held held ≤ length (all_held held)) × (length (all_held held) ≤ limits.ceiling)
held_bounds limits None is = (omega arith, omega arith)
held_bounds limits (Some held) is = (is.1, is.2)

-- the ending that two lists tell
between_same : {Q : Type 0} (list : List Q) → ending_between list list ≡ Nothing
between_same [] = refl
between_same (one ∷ list) = between_same list

between_more : {Q : Type 0} (list : List Q) (request : Q) → ending_between list (list ++ request ∷ []) ≡ Request request
between_more [] request = refl
between_more (one ∷ list) request = between_more list request

between_none : {Q : Type 0} (list : List Q) → 0 < length list → ending_between list [] ≡ Checkpoint
between_none [] some = absurd (omega arith)
between_none (one ∷ list) some = refl

-- a body of a service
module _ {S State Q : Type 0} (initial : State) (next : State → Q → State) (base : S → State) (before : S → ℕ)
    (requests : S → List Q) where
  abbrev keeps : S → ℕ → List Q → Type 0
  keeps = Keeps initial next base before requests

  -- its list tells which of the possible changes a body has had
  pub ending_is : (held : Option (HeldShard Q)) (body : S) (ending : Ending Q) → first_held held ≤ length
      (all_held held) → EndsWith keeps held body ending → ending_between (list_held held) (requests body) ≡ ending
  ending_is held body Nothing within is = ap (ending_between (list_held held)) is.2 ∙ between_same (list_held held)
  ending_is held body (Request request) within is =
      ap (ending_between (list_held held)) (is.2 ∙ drop-append-le (first_held held) (all_held held)
      (request ∷ []) within) ∙ between_more (list_held held) request
  ending_is held body Checkpoint within is =
      let some = is.0 in
      let left = length-drop (first_held held) (all_held held) in
      ap (ending_between (list_held held)) (is.1.2 ∙ drop-length (all_held held))
      ∙ between_none (list_held held) (omega arith)

  -- bodies that have applied nothing
  pub all_new : (bodies : List S) → All (λ body. base body ≡ initial) bodies → All (λ body. before body ≡ 0) bodies
      → All (λ body. requests body ≡ []) bodies → All (λ body. keeps body 0 []) bodies
  all_new [] bases befores lists = All-nil (λ body. keeps body 0 [])
  all_new (body ∷ bodies) bases befores lists =
      All-cons (λ one. keeps one 0 []) body bodies (
        omega arith,
        All-head (λ one. before one ≡ 0) body bodies befores,
        All-head (λ one. requests one ≡ []) body bodies lists,
        All-head (λ one. base one ≡ initial) body bodies bases,
      )
      (all_new bodies (All-tail (λ one. base one ≡ initial) body bodies bases) (All-tail
      (λ one. before one ≡ 0) body bodies befores) (All-tail (λ one. requests one ≡ []) body bodies lists))
