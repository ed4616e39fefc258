-- How a body changes if it applies a request, or makes a checkpoint.
use Rattle.std.proofs.Common.{◌≡◌, ℕ, suc, ◌+◌, ◌-◌, ◌≤◌, List, [], ◌∷◌, ◌++◌, length, drop, take, refl, sym, ap, ◌∙◌}
use Rattle.std.proofs.Common.{subst, arith, length-append, length-drop, take-append-drop}
use Rattle.std.specs.Prelude.{Option, fold}
use Rattle.std.proofs.lemmas.List.{drop-append-le, take-append-le, take_all}
use Rattle.std.proofs.Math.Seq.{drop-length}
use Rattle.core.proofs.iter.runs.Lists.{fold-append}
use Rattle.sm_ownership.specs.declared.entry.Ending.TheVariants.{Request}
use Rattle.sm_rule.specs.declared.view.HeldShard.{HeldShard}
use Rattle.sm_ownership.specs.History.{checkpoint_ending}
use Rattle.sm_rule.specs.Bodies.{Keeps, all_after}
use Rattle.sm_rule.specs.Views.{EndsWith, all_held, first_held, list_held}

-- all requests stay by a checkpoint
pub all_based : {Q : Type 0} (all list : List Q) → all_after all (checkpoint_ending list) ≡ all
all_based all [] = refl
all_based all (request ∷ more) = refl

-- a body that kept nothing ends with nothing, and otherwise with a checkpoint
checkpoint_ends : {S Q : Type 0} (rests : S → ℕ → List Q → Type 0) (held : Option (HeldShard Q)) (body : S)
    → first_held held ≤ length (all_held held) → rests body (length (all_held held)) (all_held held)
    → EndsWith rests held body (checkpoint_ending (list_held held))
checkpoint_ends rests held body within is = by_list (list_held held) refl
  where
    left : length (list_held held) ≡ length (all_held held) - first_held held
    left = length-drop (first_held held) (all_held held)

    by_list : (list : List _) → list_held held ≡ list → EndsWith rests held body (checkpoint_ending list)
    by_list [] none =
        let long = left in
        let empty : length (list_held held) ≡ 0 = ap length none in
        let all : length (all_held held) ≡ first_held held = omega arith in
        subst (λ first. rests body first (all_held held)) all is
    by_list (request ∷ more) some =
        let long = left in
        let many : length (list_held held) ≡ suc (length more) = ap length some in
        (omega arith, is)

-- a body of a service
module _ {S State Q : Type 0} (initial : State) (next : State → Q → State) (base : S → State) (before : S → ℕ)
    (requests : S → List Q) where
  abbrev keeps : S → ℕ → List Q → Type 0
  keeps = Keeps initial next base before requests

  -- a body that was lent
  pub lent_rests : (held : Option (HeldShard Q)) (given lent : S) → lent ≡ given
      → keeps given (first_held held) (all_held held) → keeps lent (first_held held) (all_held held)
  lent_rests held given lent same is = subst (λ body. keeps body (first_held held) (all_held held)) (sym same) is

  -- a body that has applied one request more
  pub rests_applied : (body later : S) (first : ℕ) (all : List Q) (request : Q) → keeps body first all
      → requests later ≡ requests body ++ request ∷ [] → base later ≡ base body → before later ≡ before body
      → keeps later first (all ++ request ∷ [])
  rests_applied body later first all request is gained same_base same_before =
      let longer = length-append all (request ∷ []) in
      let within = is.0 in (
        omega arith,
        same_before ∙ is.1,
        gained ∙ (ap (λ list. list ++ request ∷ []) is.2 ∙ sym (drop-append-le first all (request ∷ []) is.0)),
        same_base ∙ (is.3 ∙ ap (fold next initial) (sym (take-append-le first all (request ∷ []) is.0))),
      )

  -- a body that is as it was
  pub rests_same : (body later : S) (first : ℕ) (all : List Q) → keeps body first all → requests later ≡ requests body
      → base later ≡ base body → before later ≡ before body → keeps later first all
  rests_same body later first all is same_list same_base same_before =
      (is.0, same_before ∙ is.1, same_list ∙ is.2, same_base ∙ is.3)

  -- the state after the kept requests is the state after all requests
  pub state_after : (body : S) (first : ℕ) (all : List Q) → keeps body first all
      → fold next (base body) (requests body) ≡ fold next initial all
  state_after body first all is =
      (λ i. fold next (is.3 i) (is.2 i))
      ∙ (sym (fold-append next initial (take first all) (drop first all))
      ∙ ap (fold next initial) (take-append-drop first all))

  -- how many requests it has applied in all
  pub applied_in_all : (body : S) (first : ℕ) (all : List Q) → keeps body first all
      → before body + length (requests body) ≡ length all
  applied_in_all body first all is =
      let within = is.0 in
      let left = length-drop first all in
      let list = ap length is.2 in
      let count = is.1 in
      omega arith

  -- the same for a body that was borrowed to apply a request; an admission may then end with it
  pub ends_applied : (held : Option (HeldShard Q)) (given lent later : S) (request : Q) → lent ≡ given
      → keeps given (first_held held) (all_held held) → requests later ≡ requests lent ++ request ∷ []
      → base later ≡ base lent → before later ≡ before lent → EndsWith keeps held later (Request request)
  ends_applied held given lent later request same is gained same_base same_before =
      rests_applied lent later (first_held held) (all_held held) request
      (lent_rests held given lent same is) gained same_base same_before

  -- a body that has made a checkpoint
  pub rests_based : (body later : S) (first : ℕ) (all : List Q) → keeps body first all
      → base later ≡ fold next (base body) (requests body) → before later ≡ before body + length (requests body)
      → requests later ≡ [] → keeps later (length all) all
  rests_based body later first all is based counted none = (
    omega arith,
    counted ∙ applied_in_all body first all is,
    none ∙ sym (drop-length all),
    based ∙ (state_after body first all is ∙ ap (fold next initial) (sym (take_all (length all) all (omega arith)))),
  )

  pub ends_based : (held : Option (HeldShard Q)) (given lent later : S) → lent ≡ given
      → keeps given (first_held held) (all_held held) → base later ≡ fold next (base lent) (requests lent)
      → before later ≡ before lent + length (requests lent) → requests later ≡ []
      → EndsWith keeps held later (checkpoint_ending (list_held held))
  ends_based held given lent later same is based counted none =
      let rests = lent_rests held given lent same is in
      checkpoint_ends keeps held later is.0
      (rests_based lent later (first_held held) (all_held held) rests based counted none)
