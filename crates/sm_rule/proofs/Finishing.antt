-- The effect on the pass and on the body of the store that ends an admission.
use Rattle.std.proofs.Common.{◌≡◌, ℕ, List, sym, ap, ◌∙◌, subst}
use Rattle.std.specs.Prelude.{Option}
use Rattle.atomic_table.specs.Seated.{TableId}
use Rattle.sm_ownership.specs.declared.entry.Ending.{Ending}
use Rattle.sm_ownership.specs.declared.entry.Kind.{Kind}
use Rattle.sm_ownership.specs.declared.entry.Kind.TheVariants.{Done}
use Rattle.sm_ownership.specs.History.{all_of, ending_of, first_of}
use Rattle.sm_rule.specs.declared.view.View.{View}
use Rattle.sm_rule.specs.Bodies.{all_after, first_after}
use Rattle.sm_rule.specs.Passes.{PassAdds, PassValue, pass_value}
use Rattle.sm_rule.specs.Views.{Adds, EndsWith, all_held, first_held}
use Rattle.sm_rule.proofs.Bodies.{rests_after, rests_at}
use Rattle.sm_rule.proofs.Seeing.{adds_of_pass}

module _ {S Q : Type 0} (value : PassValue Q) (id : TableId) (u w : View Q) (me : View Q × List (ℕ × Option S))
    (carried : List (ℕ × Option S)) (shard at : ℕ) (kind : Kind Q) (ending : Ending Q)
    (of_pass : pass_value id u ≡ value) (out : me ≡ (u, carried)) (place : at ≡ shard) (is : kind ≡ Done ending) where
  held_is : me.0.held ≡ value.held
  held_is = ap (λ (it : View Q × List (ℕ × Option S)). it.0.held) out ∙ ap (λ (pass : PassValue Q). pass.held) of_pass

  pub ended_adds : (later : TableId) → later ≡ id → Adds me.0 at kind w
      → PassAdds value shard (Done ending) (pass_value later w)
  ended_adds later same added =
      let here : Adds u shard (Done ending) w =
      subst (λ (it : View Q × ℕ × Kind Q). Adds it.0 it.1 it.2 w) (λ i. ((out i).0, place i, is i)) added in
      adds_of_pass value id later u w of_pass same shard (Done ending) here

  module _ (all : all_of w.seen at ≡ all_after (all_held me.0.held) (ending_of kind)) where
    pub ended_all : all_of w.seen shard ≡ all_after (all_held value.held) ending
    ended_all = ap (all_of w.seen) (sym place) ∙ (all ∙ λ i. all_after (all_held (held_is i)) (ending_of (is i)))

    module _
        (first : first_of w.seen at ≡ first_after (first_held me.0.held) (all_held me.0.held) (ending_of kind)) where
      pub ended_first : first_of w.seen shard ≡ first_after (first_held value.held) (all_held value.held) ending
      ended_first = ap (first_of w.seen) (sym place)
          ∙ (first ∙ λ i. first_after (first_held (held_is i)) (all_held (held_is i)) (ending_of (is i)))

      pub ended_body : (rests : S → ℕ → List Q → Type 0) (body : S) → EndsWith rests value.held body ending
          → rests body (first_of w.seen shard) (all_of w.seen shard)
      ended_body rests body ends =
          rests_at rests body (first_after (first_held value.held) (all_held value.held) ending) (first_of w.seen shard)
          (all_after (all_held value.held) ending) (all_of w.seen shard) (sym ended_first) (sym ended_all)
          (rests_after rests value.held body ending ends)
