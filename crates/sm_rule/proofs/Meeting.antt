-- A seat that takes in another keeps the rule, and so does the load that looks at the history then.
use Rattle.std.proofs.Common.{◌≡◌, ◌≢◌, ℕ, ◌<◌, ◌≤◌, List, refl, sym, ap, ◌∙◌, subst}
use Rattle.std.proofs.Common.{inl, inr, ⊎_elim, le_refl}
use Rattle.std.specs.Prelude.{Option, Some, reverse, slice_set}
use Rattle.std.proofs.lemmas.List.{length-set, reverse-reverse}
use mathlib.Core.Option as math
use mathlib.Core.Option.{some, none, some-injective}
use lib.ListN.{get_elem?}
use Rattle.atomic_table.specs.Table.{Me, step, keeps, Allows, Joins}
use Rattle.atomic_table.proofs.Lists.{set_else, set_here}
use Rattle.sm_ownership.specs.declared.entry.Entry.{Entry}
use Rattle.sm_ownership.specs.History.{NoneBy}
use Rattle.sm_ownership.specs.lemmas.Lasting.{NoneBy-reverse}
use Rattle.sm_rule.specs.declared.limits.Limits.{Limits}
use Rattle.sm_rule.specs.declared.view.Stage.TheVariants.{Acting, Cut, Joined}
use Rattle.sm_rule.specs.declared.view.Heard.{Heard}
use Rattle.sm_rule.specs.declared.view.Parent.{Parent}
use Rattle.sm_rule.specs.declared.view.View.{View}
use Rattle.sm_rule.specs.Rule.{AreHeard, AreParents, IsCut, IsHeard, IsHolding, IsParent, IsTrueView, Names, Rule}
use Rattle.sm_rule.specs.Rule.{RuleHolds}
use Rattle.sm_rule.specs.Steps.{Met}
use Rattle.sm_rule.specs.Views.{informed, left_behind, seeing}
use Rattle.sm_rule.proofs.Keeping.{acting_uncut, acting_unjoined, in_order, look_keeps, looks_all, same_some}
use Rattle.sm_rule.proofs.Parents.{names_none, parents_set}
use Rattle.sm_rule.proofs.Places.{below_end, views_set}

joined_unacting : Joined ≡ Acting → ⊥
joined_unacting is = absurd (cc)

joined_uncut : Joined ≡ Cut → ⊥
joined_uncut is = absurd (cc)

-- a seat that acts takes in another
module _ {S Q : Type 0} (rests : S → ℕ → List Q → Type 0) (limit : S → ℕ) (limits : Limits) (words : List ℕ)
    (homes : List (math.Option (Option S))) (views : List (View Q)) (history : List (Entry Q))
    (holds : RuleHolds rests limit limits words homes views history)
    (id other : ℕ) (view one : View Q) (live : view.stage ≡ Acting) (alive : one.stage ≡ Acting)
    (at : get_elem? views id ≡ some view) (apart : other ≢ id) (there : get_elem? views other ≡ some one) where
  abbrev both : View Q
  both = informed view one

  abbrev first : List (View Q)
  first = slice_set views id both

  abbrev last : List (View Q)
  last = slice_set first other left_behind

  found : get_elem? first other ≡ some one
  found = set_else views id other both apart ∙ there

  fits_both : IsTrueView limits id both history
  fits_both =
      let fit = holds.fit id view at live in
      record {
        limits_are = fit.limits_are;
        number_is = fit.number_is;
        later = fit.later;
        seen = fit.seen;
        others = fit.others;
        server = fit.server;
        held = fit.held;
      }

  -- the seat is told this about the other
  tells : IsHeard last (record { by = one.number; seen = one.seen; parent = one.parent }) history
  tells =
      let fit = holds.fit other one there alive in
      record {
        later = fit.later;
        seen = fit.seen;
        others = subst (λ n. NoneBy n fit.later) (sym fit.number_is) fit.others;
        joined = ap (get_elem? last) fit.number_is ∙ set_here first other left_behind (below_end first other one found);
      }

  told_last : (heard : Heard Q) → IsHeard views heard history → IsHeard last heard history
  told_last heard is =
      let apart_from : (n : ℕ) (its : View Q) → get_elem? views n ≡ some its → its.stage ≡ Acting → heard.by ≢ n =
      λ n its found_it acts same.
      joined_unacting (sym (ap (λ (it : View Q). it.stage)
      (some-injective its left_behind (sym found_it ∙ (ap (get_elem? views) (sym same) ∙ is.joined)))) ∙ acts) in
      record {
        later = is.later;
        seen = is.seen;
        others = is.others;
        joined = set_else first other heard.by left_behind (apart_from other one there alive)
            ∙ (set_else views id heard.by both (apart_from id view at live) ∙ is.joined);
      }

  told_both : AreHeard last history
  told_both =
      views_set (λ n it. (heard : Heard Q) → it.heard ≡ Some heard → IsHeard last heard history) first other left_behind
      (λ n it away at_first. views_set
      (λ m its. (heard : Heard Q) → its.heard ≡ Some heard → IsHeard last heard history) views id both
      (λ m its off at_views heard is. told_last heard (holds.heard m its at_views heard is))
      (λ heard is. subst (λ its. IsHeard last its history) (same_some _ heard is) tells)
      n it at_first)
      (λ heard is. absurd (cc))

  -- the names after it
  names_both : (parent : Parent) → Names both parent → IsParent views parent
  names_both parent names =
      ⊎_elim
      (λ (its : view.parent ≡ Some parent). holds.parents id view at parent (inl its))
      (λ (told : (heard : Heard Q) × (both.heard ≡ Some heard) × (heard.parent ≡ Some parent)).
      holds.parents other one there parent
      (inl (ap (λ (heard : Heard Q). heard.parent) (same_some _ told.0 told.1) ∙ told.2)))
      names

  parents_last : AreParents last
  parents_last =
      parents_set first other one left_behind found (inl refl)
      (λ parent names. absurd (names_none left_behind parent refl refl names))
      (parents_set views id view both at (inr (acting_unjoined view.stage live, le_refl view.cuts)) names_both
      holds.parents)

  joined : RuleHolds rests limit limits words homes last history
  joined =
      let long = length-set first other left_behind ∙ length-set views id both in
      record {
        legal = holds.legal;
        known = holds.known;
        words_are = holds.words_are;
        slots = holds.slots;
        home = holds.home;
        fit = views_set (λ n it. it.stage ≡ Acting → IsTrueView limits n it history) first other left_behind
            (λ n it away at_first. views_set (λ m its. its.stage ≡ Acting → IsTrueView limits m its history) views id
            both (λ m its off at_views. holds.fit m its at_views) (λ _. fits_both) n it at_first)
            (λ is. absurd (joined_unacting is));
        cut = views_set (λ n it. it.stage ≡ Cut → IsCut limits n it history) first other left_behind
            (λ n it away at_first. views_set (λ m its. its.stage ≡ Cut → IsCut limits m its history) views id both
            (λ m its off at_views. holds.cut m its at_views)
            (λ is. absurd (acting_uncut view.stage live is)) n it at_first)
            (λ is. absurd (joined_uncut is));
        heard = told_both;
        parents = parents_last;
        unused = λ n past. holds.unused n (subst (λ many. many ≤ n) long past);
        chaired = subst (λ many. 0 < many) (sym long) holds.chaired;
      }

pub joins : {S Q : Type 0} (rests : S → ℕ → List Q → Type 0) (limit : S → ℕ) (limits : Limits) (id other : ℕ)
    (view one : View Q) → view.stage ≡ Acting → one.stage ≡ Acting
    → Joins {S = Option S} (Rule rests limit limits) id view other one (informed view one) left_behind
joins rests limit limits id other view one live alive table rule at apart there = (
  rule.0,
  joined rests limit limits table.words table.homes table.views rule.0 rule.1 id other view one live alive at
      apart (sym (set_else table.views id other (informed view one) apart) ∙ there),
)

-- the load after it
pub meets : {S Q : Type 0} (rests : S → ℕ → List Q → Type 0) (limit : S → ℕ) (limits : Limits) (slots id word : ℕ)
    (me : Me (Option S) (View Q)) → me.0.stage ≡ Acting
    → Allows (Rule rests limit limits) slots id me word (λ n. n) (Met (step {S = Option S} slots word 0 0 none) me)
meets {S} {Q} rests limit limits slots id word me live table rule size at small =
    let history = rule.0 in
    let holds = rule.1 in
    let fit = holds.fit id me.0 at live in (
      seeing me.0 (reverse history),
      keeps,
      tt,
      (history, look_keeps rests limit limits id word table.words table.homes table.views history me.0 holds at live),
      (
        looks_all limits id me.0 history fit holds.legal,
        (λ heard is.
            let tells = holds.heard id me.0 at heard is in (
              reverse tells.later,
              in_order tells.later heard.seen history tells.seen,
              NoneBy-reverse heard.by tells.later tells.others,
            )),
        (λ held is. subst (λ (it : Limits × ℕ × List (Entry Q)). IsHolding it.0 it.1 held it.2)
            (λ i. (sym fit.limits_are i, sym fit.number_is i, sym (reverse-reverse history) i)) (fit.held held is)),
        (λ heard is parent of same.
            let cuts = holds.parents id me.0 at parent (inr (heard, is, of)) in
            ⊎_elim
            (λ (joined : me.0.stage ≡ Joined). absurd (acting_unjoined me.0.stage live joined))
            (λ (fewer : parent.cuts ≤ me.0.cuts). fewer)
            (cuts.1 me.0 (ap (get_elem? table.views) (same ∙ fit.number_is) ∙ at))),
        refl,
      ),
    )

-- the seat acts on
pub still_acts : {S Q : Type 0} (me : Me (Option S) (View Q)) (view one : View Q) (slots : List (ℕ × Option S))
    → me ≡ (informed view one, slots) → view.stage ≡ Acting → me.0.stage ≡ Acting
still_acts {S} {Q} me view one slots is live = ap (λ (it : Me (Option S) (View Q)). it.0.stage) is ∙ live
