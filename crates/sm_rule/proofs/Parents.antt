-- The statements of views about the seats from which they were cut.
use Rattle.std.proofs.Common.{◌≡◌, ℕ, ◌+◌, ◌<◌, ◌≤◌, List, [], ◌∷◌, ◌++◌, length, refl, sym, ap, ◌∙◌, subst, arith}
use Rattle.std.proofs.Common.{inl, inr, ◌⊎◌, ⊎_elim, le_refl, length-append}
use Rattle.std.specs.Prelude.{Some, None, slice_set}
use Rattle.std.proofs.lemmas.List.{length-set}
use mathlib.Core.Option.{some, some-injective}
use lib.ListN.{get_elem?}
use Rattle.atomic_table.proofs.Lists.{set_here}
use Rattle.sm_rule.specs.declared.view.Heard.{Heard}
use Rattle.sm_rule.specs.declared.view.Parent.{Parent}
use Rattle.sm_rule.specs.declared.view.Stage.TheVariants.{Joined}
use Rattle.sm_rule.specs.declared.view.View.{View}
use Rattle.sm_rule.specs.Rule.{AreParents, IsParent, Names}
use Rattle.sm_rule.specs.Views.{cutting, parent_of}
use Rattle.sm_rule.proofs.Places.{at_last, below_end, none_some, views_pushed, views_set}

pub names_none : {Q : Type 0} (view : View Q) (parent : Parent) → view.parent ≡ None → view.heard ≡ None
    → Names view parent → ⊥
names_none {Q} view parent none untold names =
    ⊎_elim
    (λ (its : view.parent ≡ Some parent). none_some parent (sym none ∙ its))
    (λ (told : (heard : Heard Q) × (view.heard ≡ Some heard) × (heard.parent ≡ Some parent)).
    none_some told.0 (sym untold ∙ told.1))
    names

-- a view in the place of another: it was taken in, or no fewer were cut from it
abbrev pub Follows : {Q : Type 0} → View Q → View Q → Type 0
Follows before after = (after.stage ≡ Joined) ⊎ ((before.stage ≡ Joined → ⊥) × (before.cuts ≤ after.cuts))

module _ {Q : Type 0} (views : List (View Q)) (id : ℕ) (before after : View Q)
    (at : get_elem? views id ≡ some before) where
  follows : Follows before after → (parent : Parent) → IsParent views parent → id ≡ parent.number
      → (after.stage ≡ Joined) ⊎ (parent.cuts ≤ after.cuts)
  follows stays parent is same =
      ⊎_elim inl
      (λ (live : (before.stage ≡ Joined → ⊥) × (before.cuts ≤ after.cuts)).
      ⊎_elim
      (λ (joined : before.stage ≡ Joined). absurd (live.0 joined))
      (λ (fewer : parent.cuts ≤ before.cuts). let more = live.1 in inr (omega arith))
      (is.1 before (subst (λ n. get_elem? views n ≡ some before) same at)))
      stays

  pub parent_set : Follows before after → (parent : Parent) → IsParent views parent
      → IsParent (slice_set views id after) parent
  parent_set stays parent is = (
    subst (λ many. parent.number < many) (sym (length-set views id after)) is.0,
    λ view there. views_set (λ n (one : View Q). n ≡ parent.number → (one.stage ≡ Joined) ⊎ (parent.cuts ≤ one.cuts))
        views id after
        (λ n one apart found same. is.1 one (subst (λ k. get_elem? views k ≡ some one) same found))
        (follows stays parent is) parent.number view there refl,
  )

  pub parents_set : Follows before after → ((parent : Parent) → Names after parent → IsParent views parent)
      → AreParents views → AreParents (slice_set views id after)
  parents_set stays named are = λ n view there parent names.
      parent_set stays parent
      (views_set (λ m (one : View Q). (it : Parent) → Names one it → IsParent views it) views id after
      (λ m one apart found. are m one found) named n view there parent names)

  -- its names are the other's names
  pub parents_same : (before.stage ≡ Joined → ⊥) → before.cuts ≤ after.cuts
      → ((parent : Parent) → Names after parent → Names before parent) → AreParents views
      → AreParents (slice_set views id after)
  parents_same live more same are =
      parents_set (inr (live, more)) (λ parent names. are id before at parent (same parent names)) are

module _ {Q : Type 0} (views : List (View Q)) (mine : View Q) where
  parent_pushed : (parent : Parent) → IsParent views parent → IsParent (views ++ mine ∷ []) parent
  parent_pushed parent is = (
    (let long = length-append views (mine ∷ []) in let below = is.0 in omega arith),
    λ view there. ⊎_elim (λ (before : get_elem? views parent.number ≡ some view). is.1 view before)
        (λ (last : (parent.number ≡ length views) × (mine ≡ view)).
        let below = is.0 in let end = last.0 in absurd (omega arith))
        (at_last views mine view parent.number there),
  )

  pub parents_pushed : ((parent : Parent) → Names mine parent → IsParent views parent) → AreParents views
      → AreParents (views ++ mine ∷ [])
  parents_pushed named are =
      views_pushed (λ n (one : View Q). (parent : Parent) → Names one parent → IsParent (views ++ mine ∷ []) parent)
      views mine
      (λ n one there parent names. parent_pushed parent (are n one there parent names))
      (λ parent names. parent_pushed parent (named parent names))

-- a seat from which another was cut, as that one names it
pub is_parent : {Q : Type 0} (views : List (View Q)) (id : ℕ) (view : View Q) → get_elem? views id ≡ some view
    → view.number ≡ id → IsParent (slice_set views id (cutting view)) (parent_of view)
is_parent {Q} views id view at is =
    let first = slice_set views id (cutting view) in
    let below = below_end views id view at in (
      (let long = length-set views id (cutting view) in omega arith),
      λ one there. inr (subst (λ (it : View Q). view.cuts + 1 ≤ it.cuts)
          (some-injective (cutting view) one
          (sym (set_here views id (cutting view) below) ∙ (ap (get_elem? first) (sym is) ∙ there)))
          (le_refl (view.cuts + 1))),
    )
