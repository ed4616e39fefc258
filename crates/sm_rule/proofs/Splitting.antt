-- A seat that is cut in two keeps the rule, and so does the first load of its second half.
use Rattle.std.proofs.Common.{◌≡◌, ◌≢◌, ℕ, ◌<◌, ◌≤◌, List, [], ◌∷◌, length, refl, sym, ap, ◌∙◌, subst, arith}
use Rattle.std.proofs.Common.{inl, inr, ⊎_elim, le_refl, length-append}
use Rattle.std.specs.Prelude.{Option, Some, None, reverse, slice_index, slice_set}
use Rattle.std.proofs.lemmas.List.{length-set, reverse-reverse, set-get_or}
use Rattle.std.proofs.lemmas.List.Elements.{All-nil}
use mathlib.Core.Option as math
use mathlib.Core.Option.{some, none}
use lib.ListN.{get_elem?}
use Rattle.atomic_table.specs.Table.{Me, step, keeps, Allows, Splits}
use Rattle.atomic_table.proofs.Lists.{set_here}
use Rattle.sm_ownership.specs.declared.entry.Entry.{Entry}
use Rattle.sm_ownership.specs.History.{IsLegal, IsLegalLatest}
use Rattle.sm_ownership.specs.lemmas.Lasting.{NoneBy-reverse, acts_as-none}
use Rattle.sm_rule.specs.declared.limits.Limits.{Limits}
use Rattle.sm_rule.specs.declared.view.Heard.{Heard}
use Rattle.sm_rule.specs.declared.view.Parent.{Parent}
use Rattle.sm_rule.specs.declared.view.Stage.TheVariants.{Acting, Cut, Joined}
use Rattle.sm_rule.specs.declared.view.View.{View}
use Rattle.sm_rule.specs.Rule.{IsCut, IsParent, IsTrueView, Names, Rule, RuleHolds}
use Rattle.sm_rule.specs.Steps.{Enrolled}
use Rattle.sm_rule.specs.Views.{cut_off, cutting, half_of, parent_of}
use Rattle.sm_rule.proofs.Keeping.{acting_uncut, acting_unjoined, in_order, same_some, told_pushed, told_set}
use Rattle.sm_rule.proofs.Parents.{is_parent, parents_pushed, parents_same, parents_set}
use Rattle.sm_rule.proofs.Places.{at_end, below_end, none_some, views_pushed, views_set}

-- a seat from which another was cut
pub cutting_keeps : {S Q : Type 0} (rests : S → ℕ → List Q → Type 0) (limit : S → ℕ) (limits : Limits) (id : ℕ)
    (words : List ℕ) (homes : List (math.Option (Option S))) (views : List (View Q)) (history : List (Entry Q))
    (view : View Q) → RuleHolds rests limit limits words homes views history → get_elem? views id ≡ some view
    → view.stage ≡ Acting → RuleHolds rests limit limits words homes (slice_set views id (cutting view)) history
cutting_keeps rests limit limits id words homes views history view holds at live =
    let long = length-set views id (cutting view) in
    let fit = holds.fit id view at live in
    let fits_cutting : IsTrueView limits id (cutting view) history = record {
      limits_are = fit.limits_are;
      number_is = fit.number_is;
      later = fit.later;
      seen = fit.seen;
      others = fit.others;
      server = fit.server;
      held = fit.held;
    } in
    record {
      legal = holds.legal;
      known = holds.known;
      words_are = holds.words_are;
      slots = holds.slots;
      home = holds.home;
      fit = views_set (λ n one. one.stage ≡ Acting → IsTrueView limits n one history) views id (cutting view)
          (λ n one apart there. holds.fit n one there) (λ _. fits_cutting);
      cut = views_set (λ n one. one.stage ≡ Cut → IsCut limits n one history) views id (cutting view)
          (λ n one apart there. holds.cut n one there) (λ is. absurd (acting_uncut view.stage live is));
      heard = told_set views id view (cutting view) history at (acting_unjoined view.stage live) (λ heard is. is)
          holds.heard;
      parents = parents_same views id view (cutting view) at (acting_unjoined view.stage live) (omega arith)
          (λ parent names. names) holds.parents;
      unused = λ n past. holds.unused n (subst (λ many. many ≤ n) long past);
      chaired = subst (λ many. 0 < many) (sym long) holds.chaired;
    }

-- a seat that acts is cut in two
pub splits : {S Q : Type 0} (rests : S → ℕ → List Q → Type 0) (limit : S → ℕ) (limits : Limits) (id : ℕ) (view : View Q)
    → view.stage ≡ Acting → Splits {S = Option S} (Rule rests limit limits) id view (cutting view) (cut_off view)
splits {S} {Q} rests limit limits id view live table rule at =
    let history = rule.0 in
    let fit = rule.1.fit id view at live in
    let views = slice_set table.views id (cutting view) in
    let holds : RuleHolds rests limit limits table.words table.homes views history =
    cutting_keeps rests limit limits id table.words table.homes table.views history view rule.1 at live in
    let mine : View Q = cut_off view in
    let n = length views in
    let long = length-append views (mine ∷ []) in
    let chaired = holds.chaired in
    let here : get_elem? views id ≡ some (cutting view) =
    set_here table.views id (cutting view) (below_end table.views id view at) in
    let apart : n ≢ id = λ same. at_end n id views (cutting view) here (le_refl n) same in
    let off : IsCut limits n mine history = record {
      limits_are = fit.limits_are;
      number_new = λ same. apart (same ∙ fit.number_is);
      not_control = λ zero. above n chaired zero;
      later = fit.later;
      seen = fit.seen;
      unused = holds.unused n (le_refl n);
    } in
    let named : (parent : Parent) → Names mine parent → IsParent views parent =
    λ parent names.
    ⊎_elim
    (λ (its : Some (parent_of view) ≡ Some parent). subst (IsParent views) (same_some (parent_of view) parent its)
    (is_parent table.views id view at fit.number_is))
    (λ (told : (heard : Heard Q) × (None ≡ Some heard) × (heard.parent ≡ Some parent)).
    absurd (none_some told.0 told.1))
    names in (
      history,
      record {
        legal = holds.legal;
        known = holds.known;
        words_are = holds.words_are;
        slots = holds.slots;
        home = holds.home;
        fit = views_pushed (λ m one. one.stage ≡ Acting → IsTrueView limits m one history) views mine holds.fit
            (λ is. absurd (acting_uncut Cut is refl));
        cut = views_pushed (λ m one. one.stage ≡ Cut → IsCut limits m one history) views mine holds.cut (λ _. off);
        heard = told_pushed views mine history refl holds.heard;
        parents = parents_pushed views mine named holds.parents;
        unused = λ m past. holds.unused m (omega arith);
        chaired = omega arith;
      },
    )
  where
    above : (n : ℕ) → 0 < n → n ≡ 0 → ⊥
    above n more is = omega arith

cut_unjoined : {Q : Type 0} (view : View Q) → view.stage ≡ Cut → view.stage ≡ Joined → ⊥
cut_unjoined view off joined = let same : Cut ≡ Joined = sym off ∙ joined in absurd (cc)

-- the first load of a seat that was cut from another gives it its number
pub enrolls : {S Q : Type 0} (rests : S → ℕ → List Q → Type 0) (limit : S → ℕ) (limits : Limits) (slots id word : ℕ)
    (me : Me (Option S) (View Q)) → me.0.stage ≡ Cut
    → Allows (Rule rests limit limits) slots id me word (λ n. n) (Enrolled (step {S = Option S} slots word 0 0 none) me)
enrolls {S} {Q} rests limit limits slots id word me off table rule size at small =
    let history = rule.0 in
    let holds : RuleHolds rests limit limits table.words table.homes table.views history = rule.1 in
    let view = me.0 in
    let is = holds.cut id view at off in
    let mine : View Q = half_of (record view { limits = limits }) view.parent id (reverse history) in
    let long = length-set table.views id mine in
    let fit : IsTrueView limits id mine history = record {
      limits_are = refl;
      number_is = refl;
      later = [];
      seen = reverse-reverse history;
      others = All-nil (λ one. one.actor ≢ id);
      server = λ server its. acts_as-none history id server is.unused;
      held = λ held its. absurd (cc);
    } in
    let named : (parent : Parent) → Names mine parent → IsParent table.views parent =
    λ parent names.
    ⊎_elim
    (λ (its : view.parent ≡ Some parent). holds.parents id view at parent (inl its))
    (λ (told : (heard : Heard Q) × (None ≡ Some heard) × (heard.parent ≡ Some parent)).
    absurd (none_some told.0 told.1))
    names in
    let kept : RuleHolds rests limit limits (slice_set table.words word (slice_index table.words word)) table.homes
    (slice_set table.views id mine) history = record {
      legal = holds.legal;
      known = holds.known;
      words_are = set-get_or table.words word 0 ∙ holds.words_are;
      slots = holds.slots;
      home = holds.home;
      fit = views_set (λ n one. one.stage ≡ Acting → IsTrueView limits n one history) table.views id mine
          (λ n one apart there. holds.fit n one there) (λ _. fit);
      cut = views_set (λ n one. one.stage ≡ Cut → IsCut limits n one history) table.views id mine
          (λ n one apart there. holds.cut n one there) (λ its. absurd (acting_uncut Acting refl its));
      heard =
          told_set table.views id view mine history at (cut_unjoined view off) (λ heard its. absurd (cc)) holds.heard;
      parents = parents_set table.views id view mine at (inr (cut_unjoined view off, le_refl view.cuts)) named
          holds.parents;
      unused = λ n past. holds.unused n (subst (λ many. many ≤ n) long past);
      chaired = subst (λ many. 0 < many) (sym long) holds.chaired;
    } in
    let legal : IsLegal limits.count limits.ceiling (reverse history) =
    subst (IsLegalLatest limits.count limits.ceiling) (sym (reverse-reverse history)) holds.legal in (
      mine,
      keeps,
      tt,
      (history, kept),
      (
        (
          is.not_control,
          is.number_new,
          NoneBy-reverse id history is.unused,
          (reverse is.later, in_order is.later view.seen history is.seen),
          subst (λ (its : Limits). IsLegal its.count its.ceiling (reverse history)) (sym is.limits_are) legal,
          ap (λ (its : Limits). half_of (record view { limits = its }) view.parent id (reverse history))
              (sym is.limits_are),
        ),
        refl,
      ),
    )
