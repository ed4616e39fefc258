-- The steps on a board keep its rule.
use Rattle.std.proofs.Common.{◌≡◌, ◌≢◌, ℕ, zero, suc, ◌<◌, ◌≤◌, ◌^◌, true, false, not, List, [], ◌∷◌, ◌++◌, length}
use Rattle.std.proofs.Common.{replicate, refl, sym, ap, ◌∙◌, subst, arith, le_refl, length-append}
use Rattle.std.proofs.Common.{⊎_elim}
use Rattle.std.specs.Prelude.{All, IfSome, Option, Some, None, map, reverse, slice_index, slice_index_or, slice_set}
use Rattle.std.specs.Prelude.{◌==◌}
use mathlib.Core.Option as math
use Rattle.std.specs.Option.{option_map}
use Rattle.std.proofs.lemmas.Bool.{and_from, and_parts, cases_eq, eq-eqb, lt-ltb, not-true, true≢false}
use Rattle.std.proofs.lemmas.List.{append-nil, length-map, length-set, map-set, reverse-append, reverse-reverse}
use Rattle.std.proofs.lemmas.List.{set-get_or}
use Rattle.std.proofs.lemmas.List.Elements.{All-nil, All-cons, All-head, All-tail}
use Rattle.std.proofs.Math.ListN.{get_or-map}
use mathlib.Core.Option.{some, none, some-injective, some-ne-none}
use lib.ListN.{get_elem?}
use lib.LanesLaws.{map-replicate}
use prog.Atomic.{either}
use Rattle.atomic_table.specs.Table.{State, Me, step, Act, keeps, takes, gives, Enters, Allows, Valid, carried_after}
use Rattle.atomic_table.specs.Table.{homes_after, rest, stepped, opening}
use Rattle.atomic_table.specs.Seated.{TableId}
use Rattle.atomic_table.proofs.Lists.{at_longer, exchanged, set_else, set_here}
use Rattle.sm_ownership.specs.declared.change.Change.{Change}
use Rattle.sm_ownership.specs.declared.entry.Ending.{Ending}
use Rattle.sm_ownership.specs.declared.entry.Ending.TheVariants.{Nothing}
use Rattle.sm_ownership.specs.declared.entry.Entry.{Entry}
use Rattle.sm_ownership.specs.declared.entry.Kind.{Kind}
use Rattle.sm_ownership.specs.declared.entry.Kind.TheVariants.{Change as Changed, Admit, Done}
use Rattle.sm_ownership.specs.declared.mode.Mode.{Mode}
use Rattle.sm_ownership.specs.declared.record.Record.{Record}
use Rattle.sm_ownership.specs.lemmas.Growth.{length-table_of, record_at-latest, record_at-latest_other}
use Rattle.sm_ownership.specs.History.{IsLegal, IsLegalLatest, acts_as, admit_fits, admits_only, after_done, after_kind}
use Rattle.sm_ownership.specs.History.{all_of, change_fits, ending_of, first_of, fits, is_admission_of, kind_fits}
use Rattle.sm_ownership.specs.History.{latest_of, record_at, table_of_latest, vacant, NoneBy}
use Rattle.sm_ownership.specs.lemmas.Lasting.{NoneBy-reverse, acts_as-none, acts_as-other, acts_as-own}
use Rattle.sm_ownership.specs.lemmas.Lasting.{admission_excludes, latest_of-other, next_record}
use Rattle.sm_word.specs.lemmas.Histories.{well_formed}
use Rattle.sm_word.specs.Known.{AreKnown, KnownKind}
use Rattle.sm_word.specs.Word.{IsWellFormed, word_of}
use Rattle.sm_word.specs.lemmas.Words.{word_once}
use Rattle.sm_rule.specs.declared.limits.Limits.{Limits}
use Rattle.sm_rule.specs.declared.view.HeldShard.{HeldShard}
use Rattle.sm_rule.specs.declared.view.Stage.{Stage}
use Rattle.sm_rule.specs.declared.view.Stage.TheVariants.{Acting, Cut, Joined}
use Rattle.sm_rule.specs.declared.view.Heard.{Heard}
use Rattle.sm_rule.specs.declared.view.View.{View}
use Rattle.sm_rule.specs.Admissions.{HoldsPermit, PermitValue}
use Rattle.sm_rule.specs.Boards.{limit_at}
use Rattle.sm_rule.specs.Bodies.{all_after, first_after}
use Rattle.sm_rule.specs.Passes.{IsHeldOf, PassValue, pass_value, slots_of}
use Rattle.sm_rule.specs.Rule.{AreHome, AreHeard, IsTrueView, RuleHolds, IsHolding, IsCut, Rule, IsHeard, table_in}
use Rattle.sm_rule.specs.Steps.{Entered, Exchanged, IsFree, IsWordAt, Loaded, MayAdd, Stored, TakesBody, is_end}
use Rattle.sm_rule.specs.Views.{Adds, EndsWith, Looks, adding, all_held, entry_of, first_held, held_after, left_behind}
use Rattle.sm_rule.specs.Views.{newcomer, record_in, seeing}
use Rattle.sm_rule.proofs.Parents.{names_none, parents_pushed, parents_same}
use Rattle.sm_rule.proofs.Places.{at_end, none_some, views_pushed, views_set}
use Rattle.sm_rule.proofs.Bodies.{held_bounds, rests_after, rests_at}
use Rattle.sm_rule.proofs.Requests.{all_here, all_there, first_here, first_there}

-- the ceiling of a board's key is that of its origin
pub low_ceiling : (key origin : ℕ) → key ≡ origin → origin < 2 ^ 36 → key < 2 ^ 36
low_ceiling key origin same low = omega arith

pub acting_uncut : (stage : Stage) → stage ≡ Acting → stage ≡ Cut → ⊥
acting_uncut stage acts cut = absurd (cc)

pub acting_unjoined : (stage : Stage) → stage ≡ Acting → stage ≡ Joined → ⊥
acting_unjoined stage acts joined = absurd (cc)

-- a seat that isn't joined is not one that was taken in
apart_joined : {Q : Type 0} (views : List (View Q)) (by id : ℕ) (view : View Q) → get_elem? views by ≡ some left_behind
    → get_elem? views id ≡ some view → (view.stage ≡ Joined → ⊥) → by ≢ id
apart_joined views by id view joined at live same =
    live (ap (λ (one : View _). one.stage)
    (some-injective view left_behind (sym at ∙ (ap (get_elem? views) (sym same) ∙ joined))))

-- the knowledge that seats were told, after another seat, which isn't joined, has another view and was told the same
pub told_set : {Q : Type 0} (views : List (View Q)) (id : ℕ) (before after : View Q) (history : List (Entry Q))
    → get_elem? views id ≡ some before → (before.stage ≡ Joined → ⊥)
    → ((heard : Heard Q) → after.heard ≡ Some heard → before.heard ≡ Some heard) → AreHeard views history
    → AreHeard (slice_set views id after) history
told_set {Q} views id before after history at live same are =
    let stays : (heard : Heard Q) → IsHeard views heard history → IsHeard (slice_set views id after) heard history =
    λ heard is. record {
      later = is.later;
      seen = is.seen;
      others = is.others;
      joined = set_else views id heard.by after (apart_joined views heard.by id before is.joined at live) ∙ is.joined;
    } in
    λ n view there heard is. views_set
    (λ m one. (it : Heard Q) → one.heard ≡ Some it → IsHeard (slice_set views id after) it history) views id after
    (λ m one apart found it its. stays it (are m one found it its))
    (λ it its. stays it (are id before at it (same it its)))
    n view there heard is

-- and once there is an entry of a seat that isn't joined
pub told_added : {Q : Type 0} (views : List (View Q)) (entry : Entry Q) (view : View Q) (history : List (Entry Q))
    → get_elem? views entry.actor ≡ some view → (view.stage ≡ Joined → ⊥) → AreHeard views history
    → AreHeard views (entry ∷ history)
told_added views entry view history at live are n one there heard is =
    let before = are n one there heard is in
    record {
      later = entry ∷ before.later;
      seen = ap (λ entries. entry ∷ entries) before.seen;
      others = All-cons (λ it. it.actor ≢ heard.by) entry before.later
          (λ same. apart_joined views heard.by entry.actor view before.joined at live (sym same)) before.others;
      joined = before.joined;
    }

pub told_pushed : {Q : Type 0} (views : List (View Q)) (mine : View Q) (history : List (Entry Q)) → mine.heard ≡ None
    → AreHeard views history → AreHeard (views ++ mine ∷ []) history
told_pushed {Q} views mine history untold are =
    views_pushed
    (λ n view. (heard : Heard Q) → view.heard ≡ Some heard → IsHeard (views ++ mine ∷ []) heard history) views mine
    (λ n view there heard is.
    let before = are n view there heard is in
    record {
      later = before.later;
      seen = before.seen;
      others = before.others;
      joined = at_longer views (mine ∷ []) heard.by left_behind before.joined;
    })
    (λ heard is. absurd (none_some heard (sym untold ∙ is)))

-- the seen history and the later part, in order
pub in_order : {Q : Type 0} (later seen history : List (Entry Q)) → later ++ reverse seen ≡ history
    → reverse history ≡ seen ++ reverse later
in_order later seen history whole = ap reverse (sym whole)
    ∙ (reverse-append later (reverse seen) ∙ ap (λ entries. entries ++ reverse later) (reverse-reverse seen))

pub length-table : {Q : Type 0} (limits : Limits) (history : List (Entry Q))
    → length (table_in limits history) ≡ limits.count
length-table limits history =
    subst (λ entries. length (table_of_latest limits.count limits.ceiling entries) ≡ limits.count)
    (reverse-reverse history) (length-table_of limits.count limits.ceiling (reverse history))

-- the word of a shard
pub word_at : (words : List ℕ) (table : List Record) (shard : ℕ) → words ≡ map word_of table
    → slice_index words shard ≡ word_of (record_at table shard)
word_at words table shard are = ap (λ all. slice_index all shard) are ∙ get_or-map word_of table shard vacant

-- a view that has seen all
module _ {Q : Type 0} (limits : Limits) (id : ℕ) (view : View Q) (history : List (Entry Q))
    (fit : IsTrueView limits id view history) where
  fits_all : IsTrueView limits id (seeing view (reverse history)) history
  fits_all = record {
    limits_are = fit.limits_are;
    number_is = fit.number_is;
    later = [];
    seen = reverse-reverse history;
    others = All-nil (λ entry. entry.actor ≢ id);
    server = fit.server;
    held = fit.held;
  }

  pub legal_all : IsLegalLatest limits.count limits.ceiling history
      → IsLegal view.limits.count view.limits.ceiling (reverse history)
  legal_all legal =
      let here : IsLegal limits.count limits.ceiling (reverse history) =
      subst (IsLegalLatest limits.count limits.ceiling) (sym (reverse-reverse history)) legal in
      subst (λ (its : Limits). IsLegal its.count its.ceiling (reverse history)) (sym fit.limits_are) here

  pub others_all : NoneBy view.number (reverse fit.later)
  others_all = NoneBy-reverse view.number fit.later (subst (λ n. NoneBy n fit.later) (sym fit.number_is) fit.others)

  pub looks_all : IsLegalLatest limits.count limits.ceiling history → Looks view (seeing view (reverse history))
  looks_all legal = (
    (
      reverse fit.later,
      in_order fit.later view.seen history fit.seen ∙ sym (append-nil _),
      others_all,
      legal_all legal,
    ),
    refl,
  )

  -- the record that it sees
  pub sees : (shard : ℕ) → record_in view.limits (reverse history) shard ≡ record_at (table_in limits history) shard
  sees shard =
      ap (λ (its : Limits). record_in its (reverse history) shard) fit.limits_are
      ∙ ap (λ entries. record_at (table_of_latest limits.count limits.ceiling entries) shard) (reverse-reverse history)

-- the word that a view finds which has seen all
word_seen : {Q : Type 0} (limits : Limits) (history : List (Entry Q)) (its : Limits) (shard word : ℕ)
    → record_in its (reverse history) shard ≡ record_at (table_in limits history) shard
    → word ≡ word_of (record_at (table_in limits history) shard) → limits.ceiling < 2 ^ 36
    → IsLegalLatest limits.count limits.ceiling history → AreKnown history
    → (word ≡ word_of (record_in its (reverse history) shard)) × IsWellFormed (record_in its (reverse history) shard)
word_seen limits history its shard word same is low legal known = (
  is ∙ ap word_of (sym same),
  subst IsWellFormed (sym same) (well_formed limits.count limits.ceiling history shard low legal known),
)

-- a look changes only the looking seat's view
pub look_keeps : {S Q : Type 0} (rests : S → ℕ → List Q → Type 0) (limit : S → ℕ) (limits : Limits) (id word : ℕ)
    (words : List ℕ) (homes : List (math.Option (Option S))) (views : List (View Q)) (history : List (Entry Q))
    (view : View Q) → RuleHolds rests limit limits words homes views history → get_elem? views id ≡ some view
    → view.stage ≡ Acting → RuleHolds rests limit limits (slice_set words word (slice_index words word)) homes
    (slice_set views id (seeing view (reverse history))) history
look_keeps rests limit limits id word words homes views history view holds at live =
    let long = length-set views id (seeing view (reverse history)) in
    record {
      legal = holds.legal;
      known = holds.known;
      words_are = set-get_or words word 0 ∙ holds.words_are;
      slots = holds.slots;
      home = holds.home;
      fit = views_set (λ n one. one.stage ≡ Acting → IsTrueView limits n one history) views id
          (seeing view (reverse history)) (λ n one apart there. holds.fit n one there)
          (λ _. fits_all limits id view history (holds.fit id view at live));
      cut = views_set (λ n one. one.stage ≡ Cut → IsCut limits n one history) views id (seeing view (reverse history))
          (λ n one apart there. holds.cut n one there) (λ is. absurd (acting_uncut view.stage live is));
      heard = told_set views id view (seeing view (reverse history)) history at (acting_unjoined view.stage live)
          (λ heard is. is) holds.heard;
      parents = parents_same views id view (seeing view (reverse history)) at (acting_unjoined view.stage live)
          (le_refl view.cuts) (λ parent names. names) holds.parents;
      unused = λ n past. holds.unused n (subst (λ many. many ≤ n) long past);
      chaired = subst (λ many. 0 < many) (sym long) holds.chaired;
    }

-- a load keeps the rule
pub loads : {S Q : Type 0} (rests : S → ℕ → List Q → Type 0) (limit : S → ℕ) (limits : Limits) (slots id word : ℕ)
    (me : Me (Option S) (View Q)) → limits.ceiling < 2 ^ 36 → me.0.stage ≡ Acting
    → Allows (Rule rests limit limits) slots id me word (λ n. n) (Loaded (step {S = Option S} slots word 0 0 none) me)
loads rests limit limits slots id word me low live table rule size at small =
    let history = rule.0 in
    let holds = rule.1 in
    let fit = holds.fit id me.0 at live in (
      seeing me.0 (reverse history),
      keeps,
      tt,
      (history, look_keeps rests limit limits id word table.words table.homes table.views history me.0 holds at live),
      (
        looks_all limits id me.0 history fit holds.legal,
        word_seen limits history me.0.limits word _ (sees limits id me.0 history fit word)
            (word_at table.words (table_in limits history) word holds.words_are) low holds.legal holds.known,
        refl,
      ),
    )

-- the table and its words after an entry that fits
module _ {Q : Type 0} (limits : Limits) (entry : Entry Q) (history : List (Entry Q))
    (fit : fits limits.ceiling history (table_in limits history) entry ≡ true) where
  abbrev after : Record
  after = after_kind (record_at (table_in limits history) entry.shard) entry.kind

  table_adds : table_in limits (entry ∷ history) ≡ slice_set (table_in limits history) entry.shard after
  table_adds = rw fit refl

  words_add : (words : List ℕ) (word : ℕ) → words ≡ map word_of (table_in limits history) → word ≡ word_of after
      → slice_set words entry.shard word ≡ map word_of (table_in limits (entry ∷ history))
  words_add words word are is =
      (λ i. slice_set (are i) entry.shard (is i))
      ∙ (sym (map-set word_of (table_in limits history) entry.shard after) ∙ ap (map word_of) (sym table_adds))

  record_adds : record_at (table_in limits (entry ∷ history)) entry.shard ≡ after
  record_adds = record_at-latest limits.count limits.ceiling entry history fit

-- a seat's hold stays while others add entries
pub held_stays : {Q : Type 0} (limits : Limits) (number : ℕ) (held : HeldShard Q) (entry : Entry Q)
    (history : List (Entry Q)) → IsLegalLatest limits.count limits.ceiling (entry ∷ history) → held.shard ≢ entry.shard
    → IsHolding limits number held history → IsHolding limits number held (entry ∷ history)
held_stays limits number held entry history legal apart is =
    let same :
    record_at (table_in limits (entry ∷ history)) held.shard ≡ record_at (table_in limits history) held.shard =
    ⊎_elim
    (λ (other : (held.shard ≢ entry.shard) × (record_at (table_in limits (entry ∷ history)) held.shard
    ≡ record_at (table_in limits history) held.shard)). other.1)
    (λ (here : (held.shard ≡ entry.shard) × (record_at (table_in limits (entry ∷ history)) held.shard
    ≡ after_kind (record_at (table_in limits history) held.shard) entry.kind)). absurd (apart here.0))
    (next_record limits.count limits.ceiling entry history held.shard legal.0) in
    record {
      known = is.known;
      state = same ∙ is.state;
      admitted = is.admitted;
      own = ap (is_admission_of number) (latest_of-other entry history held.shard apart) ∙ is.own;
      first = first_there entry history held.shard apart ∙ is.first;
      all = all_there entry history held.shard apart ∙ is.all;
    }

-- another's view after an entry
fits_other : {Q : Type 0} (limits : Limits) (number : ℕ) (view : View Q) (entry : Entry Q) (history : List (Entry Q))
    → IsLegalLatest limits.count limits.ceiling (entry ∷ history) → number ≢ entry.actor
    → IsTrueView limits number view history → IsTrueView limits number view (entry ∷ history)
fits_other limits number view entry history legal apart fit = record {
  limits_are = fit.limits_are;
  number_is = fit.number_is;
  later = entry ∷ fit.later;
  seen = ap (λ entries. entry ∷ entries) fit.seen;
  others = All-cons (λ one. one.actor ≢ number) entry fit.later (λ is. apart (sym is)) fit.others;
  server = λ server is. acts_as-other entry history number server (λ same. apart (sym same)) (fit.server server is);
  held = λ held is.
      let before = fit.held held is in
      let busy = ap (λ (state : Record). state.admitted) before.state ∙ before.admitted in
      held_stays limits number held entry history legal (admission_excludes limits.count limits.ceiling entry history
      held.shard number legal.0 (λ same. apart (sym same)) busy before.own) before;
}

-- and the view of a seat that was cut off
cut_added : {Q : Type 0} (limits : Limits) (number : ℕ) (view : View Q) (entry : Entry Q) (history : List (Entry Q))
    → number ≢ entry.actor → IsCut limits number view history → IsCut limits number view (entry ∷ history)
cut_added limits number view entry history apart is = record {
  limits_are = is.limits_are;
  number_new = is.number_new;
  not_control = is.not_control;
  later = entry ∷ is.later;
  seen = ap (λ entries. entry ∷ entries) is.seen;
  unused = All-cons (λ one. one.actor ≢ number) entry history (λ same. apart (sym same)) is.unused;
}

pub same_some : {X : Type 0} (x y : X) → Some x ≡ Some y → x ≡ y
same_some x y is = cc

-- the hold of a shard after these entries, the latest first, which are this history
abbrev held_now : {Q : Type 0} → Limits → ℕ → List (Entry Q) → List (Entry Q) → HeldShard Q
held_now limits shard entries history = record {
  shard = shard;
  state = record_at (table_in limits entries) shard;
  first = first_of history shard;
  all = all_of history shard;
}

admits_here : {Q : Type 0} (limits : Limits) (number shard server : ℕ) (mode : Mode) (history : List (Entry Q))
    → fits limits.ceiling history (table_in limits history) (entry_of number shard (Admit server mode)) ≡ true
    → shard < limits.count
    → IsHolding limits number (held_now limits shard (entry_of number shard (Admit server mode) ∷ history) (reverse
    (entry_of number shard (Admit server mode) ∷ history))) (entry_of number shard (Admit server mode) ∷ history)
admits_here limits number shard server mode history fit known =
    let here : (shard == shard) ≡ true = eq-eqb shard shard refl in
    let mine : (number == number) ≡ true = eq-eqb number number refl in
    record {
      known = known;
      state = refl;
      admitted = ap (λ (state : Record). state.admitted)
          (record_adds limits (entry_of number shard (Admit server mode)) history fit);
      own = rw (here, mine) refl;
      first = refl;
      all = refl;
    }

-- the view of the one who adds an entry
module _ {Q : Type 0} (limits : Limits) (number shard : ℕ) (view : View Q) (history : List (Entry Q))
    (before : IsTrueView limits number view history) (known : shard < limits.count) where
  abbrev longer : Kind Q → List (Entry Q)
  longer kind = entry_of number shard kind ∷ history

  abbrev mine : Kind Q → View Q
  mine kind = adding view shard kind (reverse (longer kind))

  -- its hold then, by its limits
  held_is : (kind : Kind Q) → held_after view.limits shard kind (reverse (longer kind)) view.held
      ≡ held_after limits shard kind (reverse (longer kind)) view.held
  held_is kind = ap (λ (its : Limits). held_after its shard kind (reverse (longer kind)) view.held) before.limits_are

  holds_own : (kind : Kind Q) → IsFree view kind → IsLegalLatest limits.count limits.ceiling (longer kind)
      → (held : HeldShard Q) → held_after limits shard kind (reverse (longer kind)) view.held ≡ Some held
      → IsHolding limits number held (longer kind)
  holds_own (Changed change) free legal held is = absurd (none_some held (sym free ∙ is))
  holds_own (Admit server mode) free legal held is =
      let kind : Kind Q = Admit server mode in
      let turned = reverse-reverse (longer kind) in
      let here = admits_here limits number shard server mode history legal.0 known in
      let same : held_now limits shard (longer kind) (reverse (longer kind)) ≡ held =
      ap (λ entries. held_now limits shard entries (reverse (longer kind))) (sym turned)
      ∙ same_some (held_now limits shard (reverse (reverse (longer kind))) (reverse (longer kind))) held is in
      subst (λ its. IsHolding limits number its (longer kind)) same here
  holds_own (Done ending) free legal held is = absurd (cc)

  fits_own : (kind : Kind Q) → IsFree view kind
      → ((server : ℕ) → view.server ≡ Some server → admits_only server kind ≡ true)
      → IsLegalLatest limits.count limits.ceiling (longer kind) → IsTrueView limits number (mine kind) (longer kind)
  fits_own kind free only legal = record {
    limits_are = before.limits_are;
    number_is = before.number_is;
    later = [];
    seen = reverse-reverse (longer kind);
    others = All-nil (λ one. one.actor ≢ number);
    server = λ server is. acts_as-own (entry_of number shard kind) history number server (only server is)
        (before.server server is);
    held = λ held is. holds_own kind free legal held (sym (held_is kind) ∙ is);
  }

  -- its own entry is the last that it has seen
  adds_all : (kind : Kind Q) → IsLegalLatest limits.count limits.ceiling (longer kind)
      → Adds view shard kind (mine kind)
  adds_all kind legal =
      let entry = entry_of number shard kind in
      let turned : reverse (longer kind) ≡ reverse history ++ entry ∷ [] = reverse-append (entry ∷ []) history in
      let order = ap (λ entries. entries ++ entry ∷ []) (in_order before.later view.seen history before.seen) in
      let named = ap (λ n. (view.seen ++ reverse before.later) ++ entry_of n shard kind ∷ []) (sym before.number_is) in
      let others = NoneBy-reverse view.number before.later
      (subst (λ n. NoneBy n before.later) (sym before.number_is) before.others) in
      let here : IsLegal limits.count limits.ceiling (reverse (longer kind)) =
      subst (IsLegalLatest limits.count limits.ceiling) (sym (reverse-reverse (longer kind))) legal in
      let legal' = subst (λ (its : Limits). IsLegal its.count its.ceiling (reverse (longer kind)))
      (sym before.limits_are) here in
      ((reverse before.later, turned ∙ (order ∙ named), others, legal'), refl)

  sees_own : (kind : Kind Q)
      → record_in view.limits (reverse (longer kind)) shard ≡ record_at (table_in limits (longer kind)) shard
  sees_own kind =
      ap (λ (its : Limits). record_in its (reverse (longer kind)) shard) before.limits_are
      ∙ ap (λ entries. record_at (table_of_latest limits.count limits.ceiling entries) shard)
      (reverse-reverse (longer kind))

-- the bodies of the other shards stay at home
home_other : {S Q : Type 0} (rests : S → ℕ → List Q → Type 0) (limit : S → ℕ) (limits : Limits)
    (homes : List (math.Option (Option S))) (slot : math.Option (Option S)) (entry : Entry Q) (history : List (Entry Q))
    → AreHome rests limit limits homes history → fits limits.ceiling history (table_in limits history) entry ≡ true
    → (shard : ℕ) → shard < limits.count → shard ≢ entry.shard
    → (record_at (table_in limits (entry ∷ history)) shard).admitted ≡ false
    → (body : S) × (get_elem? (slice_set homes entry.shard slot) shard ≡ some (some (Some body)))
    × rests body (first_of (reverse (entry ∷ history)) shard) (all_of (reverse (entry ∷ history)) shard)
    × (limit body ≡ limit_at limits shard)
home_other rests limit limits homes slot entry history home fit shard within apart idle =
    let same : record_at (table_in limits (entry ∷ history)) shard ≡ record_at (table_in limits history) shard =
    record_at-latest_other limits.count limits.ceiling entry history shard apart fit in
    let before = home shard within (ap (λ (state : Record). state.admitted) (sym same) ∙ idle) in
    let stays = rests_at rests before.0 (first_of (reverse history) shard) (first_of (reverse (entry ∷ history)) shard)
    (all_of (reverse history) shard) (all_of (reverse (entry ∷ history)) shard)
    (sym (first_there entry history shard apart)) (sym (all_there entry history shard apart)) before.2 in
    (before.0, set_else homes entry.shard shard slot apart ∙ before.1, stays, before.3)

-- a body that rests on the requests that an entry leaves for its shard
rests_here : {S Q : Type 0} (rests : S → ℕ → List Q → Type 0) (body : S) (entry : Entry Q) (history : List (Entry Q))
    (ending : Ending Q) → ending_of entry.kind ≡ ending
    → rests body (first_after (first_of (reverse history) entry.shard) (all_of (reverse history) entry.shard) ending)
    (all_after (all_of (reverse history) entry.shard) ending)
    → rests body (first_of (reverse (entry ∷ history)) entry.shard) (all_of (reverse (entry ∷ history)) entry.shard)
rests_here rests body entry history ending ends is =
    let first = first_of (reverse history) entry.shard in
    let all = all_of (reverse history) entry.shard in
    rests_at rests body (first_after first all ending) (first_of (reverse (entry ∷ history)) entry.shard)
    (all_after all ending) (all_of (reverse (entry ∷ history)) entry.shard)
    (sym (first_here entry history ∙ ap (first_after first all) ends))
    (sym (all_here entry history ∙ ap (all_after all) ends)) is

-- the same if the shard has another name
rests_named : {S Q : Type 0} (rests : S → ℕ → List Q → Type 0) (body : S) (history : List (Entry Q)) (shard name : ℕ)
    → shard ≡ name → rests body (first_of history shard) (all_of history shard)
    → rests body (first_of history name) (all_of history name)
rests_named rests body history shard name same is =
    subst (λ k. rests body (first_of history k) (all_of history k)) same is

-- a change and an admission fit only an idle record
idle_changed : (ceiling : ℕ) (state : Record) (number : ℕ) (change : Change)
    → change_fits ceiling state number change ≡ true → state.admitted ≡ false
idle_changed ceiling state number change fit =
    not-true state.admitted (and_parts (not state.admitted) _ (and_parts (number == 0) _ fit).1).0

idle_admitted : {Q : Type 0} (ceiling : ℕ) (earlier : List (Entry Q)) (state : Record) (number server : ℕ) (mode : Mode)
    → admit_fits ceiling earlier state number server mode ≡ true → state.admitted ≡ false
idle_admitted ceiling earlier state number server mode fit =
    not-true state.admitted (and_parts (not state.admitted) _
    (and_parts (acts_as earlier number server) _ (and_parts (not (number == 0)) _ fit).1).1).0

-- an admission takes its shard's body from home
module _ {S Q : Type 0} (rests : S → ℕ → List Q → Type 0) (limit : S → ℕ) (limits : Limits)
    (homes : List (math.Option (Option S))) (history : List (Entry Q))
    (home : AreHome rests limit limits homes history) where
  abbrev at_home_after : Entry Q → List (math.Option (Option S)) → Type 0
  at_home_after entry later = AreHome rests limit limits later (entry ∷ history)

  home_admitted : (entry : Entry Q) (server : ℕ) (mode : Mode) → entry.kind ≡ Admit server mode
      → fits limits.ceiling history (table_in limits history) entry ≡ true
      → at_home_after entry (slice_set homes entry.shard none)
  home_admitted entry server mode admits fit shard within idle =
      ⊎_elim
      (λ (same : shard ≡ entry.shard).
      let busy : (record_at (table_in limits (entry ∷ history)) entry.shard).admitted ≡ true =
      ap (λ (state : Record). state.admitted) (record_at-latest limits.count limits.ceiling entry history fit)
      ∙ ap (λ kind. (after_kind (record_at (table_in limits history) entry.shard) kind).admitted) admits in
      absurd (true≢false
      (sym busy ∙ subst (λ k. (record_at (table_in limits (entry ∷ history)) k).admitted ≡ false) same idle)))
      (λ (apart : shard ≢ entry.shard). home_other rests limit limits homes none entry history home fit shard within
      apart idle)
      (cases_eq shard entry.shard)

  -- a change moves no body
  home_changed : (entry : Entry Q) (change : Change) → entry.kind ≡ Changed change
      → (record_at (table_in limits history) entry.shard).admitted ≡ false
      → fits limits.ceiling history (table_in limits history) entry ≡ true → at_home_after entry homes
  home_changed entry change changes free fit shard within idle =
      ⊎_elim
      (λ (same : shard ≡ entry.shard).
      let before =
      home shard within (subst (λ k. (record_at (table_in limits history) k).admitted ≡ false) (sym same) free) in
      let here = rests_here rests before.0 entry history Nothing (ap ending_of changes)
      (rests_named rests before.0 (reverse history) shard entry.shard same before.2) in (
        before.0,
        before.1,
        rests_named rests before.0 (reverse (entry ∷ history)) entry.shard shard (sym same) here,
        before.3,
      ))
      (λ (apart : shard ≢ entry.shard).
      let there = home_other rests limit limits homes none entry history home fit shard within apart idle in
      (there.0, sym (set_else homes entry.shard shard none apart) ∙ there.1, there.2, there.3))
      (cases_eq shard entry.shard)

  -- the end of an admission brings the body home, with its new request
  home_ended : (entry : Entry Q) (ending : Ending Q) (body : S) → entry.kind ≡ Done ending → entry.shard < length homes
      → rests body (first_after (first_of (reverse history) entry.shard) (all_of (reverse history) entry.shard) ending)
      (all_after (all_of (reverse history) entry.shard) ending) → limit body ≡ limit_at limits entry.shard
      → fits limits.ceiling history (table_in limits history) entry ≡ true
      → at_home_after entry (slice_set homes entry.shard (some (Some body)))
  home_ended entry ending body ends within_homes gains size fit shard within idle =
      ⊎_elim
      (λ (same : shard ≡ entry.shard).
      let here = rests_here rests body entry history ending (ap ending_of ends) gains in (
        body,
        subst (λ k. get_elem? (slice_set homes entry.shard (some (Some body))) k ≡ some (some (Some body))) (sym same)
            (set_here homes entry.shard (some (Some body)) within_homes),
        rests_named rests body (reverse (entry ∷ history)) entry.shard shard (sym same) here,
        size ∙ ap (limit_at limits) (sym same),
      ))
      (λ (apart : shard ≢ entry.shard). home_other rests limit limits homes
      (some (Some body)) entry history home fit shard within apart idle)
      (cases_eq shard entry.shard)

-- the whole board after an entry
adds_keep : {S Q : Type 0} (rests : S → ℕ → List Q → Type 0) (limit : S → ℕ) (limits : Limits) (id word new : ℕ)
    (words : List ℕ) (homes later : List (math.Option (Option S))) (views : List (View Q)) (history : List (Entry Q))
    (view : View Q) (kind : Kind Q)
    → RuleHolds rests limit limits words homes views history → word < limits.count → get_elem? views id ≡ some view
    → view.stage ≡ Acting
    → length later ≡ limits.count → AreHome rests limit limits later (entry_of id word kind ∷ history)
    → IsFree view kind → ((server : ℕ) → view.server ≡ Some server → admits_only server kind ≡ true) → KnownKind kind
    → fits limits.ceiling history (table_in limits history) (entry_of id word kind) ≡ true
    → new ≡ word_of (after_kind (record_at (table_in limits history) word) kind)
    → RuleHolds rests limit limits (slice_set words word new) later (slice_set views id
    (adding view word kind (reverse (entry_of id word kind ∷ history)))) (entry_of id word kind ∷ history)
adds_keep rests limit limits id word new words homes later views history view kind holds within at live many home free
    only known fit is =
    let entry = entry_of id word kind in
    let mine = adding view word kind (reverse (entry ∷ history)) in
    let legal : IsLegalLatest limits.count limits.ceiling (entry ∷ history) = (fit, holds.legal) in
    let long = length-set views id mine in
    record {
      legal = legal;
      known = All-cons (λ one. KnownKind one.kind) entry history known holds.known;
      words_are = words_add limits entry history fit words new holds.words_are is;
      slots = many;
      home = home;
      fit = views_set (λ n one. one.stage ≡ Acting → IsTrueView limits n one (entry ∷ history)) views id mine
          (λ n one apart there alive. fits_other limits n one entry history legal apart (holds.fit n one there alive))
          (λ _. fits_own limits id word view history (holds.fit id view at live) within kind free only legal);
      cut = views_set (λ n one. one.stage ≡ Cut → IsCut limits n one (entry ∷ history)) views id mine
          (λ n one apart there off. cut_added limits n one entry history apart (holds.cut n one there off))
          (λ is. absurd (acting_uncut view.stage live is));
      heard = told_set views id view mine (entry ∷ history) at (acting_unjoined view.stage live) (λ heard is. is)
          (told_added views entry view history at (acting_unjoined view.stage live) holds.heard);
      parents = parents_same views id view mine at (acting_unjoined view.stage live) (le_refl view.cuts)
          (λ parent names. names) holds.parents;
      unused = λ n past.
          let before : length views ≤ n = subst (λ many. many ≤ n) long past in
          All-cons (λ one. one.actor ≢ n) entry history (λ is. at_end n id views view at before (sym is))
          (holds.unused n before);
      chaired = subst (λ many. 0 < many) (sym long) holds.chaired;
    }

-- a seat's fit, as its own view says it
fit_by_view : {Q : Type 0} (limits : Limits) (id : ℕ) (view : View Q) (history : List (Entry Q))
    → IsTrueView limits id view history → IsTrueView view.limits view.number view history
fit_by_view limits id view history fit =
    subst (λ (pair : Limits × ℕ). IsTrueView pair.0 pair.1 view history)
    (λ i. (sym fit.limits_are i, sym fit.number_is i)) fit

-- an entry of a shard of the board fits if its kind does
fits_kind : {Q : Type 0} (limits : Limits) (id word : ℕ) (history : List (Entry Q)) (kind : Kind Q) → word
    < limits.count → kind_fits limits.ceiling history (record_at (table_in limits history) word) id word kind ≡ true
    → fits limits.ceiling history (table_in limits history) (entry_of id word kind) ≡ true
fits_kind limits id word history kind within fit =
    and_from _ _
    (lt-ltb word (length (table_in limits history)) (let long = length-table limits history in omega arith)) fit

-- an entry that may come by an exchange, and the record from which it is made
module _ {S Q : Type 0} (rests : S → ℕ → List Q → Type 0) (limit : S → ℕ) (limits : Limits)
    (homes : List (math.Option (Option S))) (history : List (Entry Q)) (number word : ℕ) (view : View Q)
    (carried : List (ℕ × Option S)) (within : word < limits.count) (limits_are : view.limits ≡ limits)
    (long : length homes ≡ limits.count) (home : AreHome rests limit limits homes history) where
  -- the slots after it
  pub record Moves (kind : Kind Q) : Type 0 where
    pub act : Act (Option S)
    pub valid : Valid homes carried act
    pub slots : length (homes_after homes carried act) ≡ limits.count
    pub at_home : AreHome rests limit limits (homes_after homes carried act) (entry_of number word kind ∷ history)
    pub takes : TakesBody rests limit kind word carried
        (adding view word kind (reverse (entry_of number word kind ∷ history))) (carried_after carried act)

  moves : (kind : Kind Q) → is_end kind ≡ false
      → kind_fits limits.ceiling history (record_at (table_in limits history) word) number word kind ≡ true
      → fits limits.ceiling history (table_in limits history) (entry_of number word kind) ≡ true → Moves kind
  moves (Changed change) begins fit fitting =
      let entry : Entry Q = entry_of number word (Changed change) in
      let free = idle_changed limits.ceiling (record_at (table_in limits history) word) number change fit in
      record {
        act = keeps;
        valid = tt;
        slots = long;
        at_home = home_changed rests limit limits homes history home entry change refl free fitting;
        takes = refl;
      }
  moves (Admit server mode) begins fit fitting =
      let entry : Entry Q = entry_of number word (Admit server mode) in
      let free =
      idle_admitted limits.ceiling history (record_at (table_in limits history) word) number server mode fit in
      let body = home word within free in
      record {
        act = takes word (Some body.0);
        valid = body.1;
        slots = length-set homes word none ∙ long;
        at_home = home_admitted rests limit limits homes history home entry server mode refl fitting;
        takes = (
          body.0,
          refl,
          rests_here rests body.0 entry history Nothing refl body.2,
          body.3 ∙ ap (λ (its : Limits). limit_at its word) (sym limits_are),
        );
      }
  moves (Done ending) begins fit fitting = absurd (true≢false begins)

-- an exchange of a seat, which adds an entry if it finds the expected word, and otherwise looks
module _ {S Q : Type 0} (rests : S → ℕ → List Q → Type 0) (limit : S → ℕ) (limits : Limits) (slots id word old new : ℕ)
    (me : Me (Option S) (View Q)) (kind : Kind Q) where
  abbrev Tells : ℕ → Me (Option S) (View Q) → Type 0
  Tells found after = Exchanged rests limit kind (step {S = Option S} slots word old new none) me found after

  won_tells : (found : ℕ) (after : Me (Option S) (View Q)) → found ≡ old → Adds me.0 word kind after.0
      × IsWordAt new after.0 word × TakesBody rests limit kind word me.1 after.0 after.1 → Tells found after
  won_tells found later hit won = ((λ _. won), (λ miss. absurd (miss hit)))

  lost_tells : (found : ℕ) (after : Me (Option S) (View Q)) → found ≢ old
      → Loaded (step {S = Option S} slots word old new none) me found after → Tells found after
  lost_tells found later miss lost = ((λ hit. absurd (miss hit)), (λ _. lost))

  -- the table after it, if the word becomes n
  abbrev Leaves : State (Option S) (View Q) → ℕ → Type 0
  Leaves table n =
      (view : View Q) × (act : Act (Option S)) × Valid table.homes me.1 act × Rule rests limit limits
      (stepped table word n id me.1 view act) × Tells (slice_index table.words word) (view, carried_after me.1 act)

  module _ (low : limits.ceiling < 2 ^ 36) (within : word < limits.count) (live : me.0.stage ≡ Acting)
      (table : State (Option S) (View Q)) (history : List (Entry Q))
      (holds : RuleHolds rests limit limits table.words table.homes table.views history)
      (at : get_elem? table.views id ≡ some me.0) where
    abbrev here : Record
    here = record_at (table_in limits history) word

    abbrev entry : Entry Q
    entry = entry_of id word kind

    fit : IsTrueView limits id me.0 history
    fit = holds.fit id me.0 at live

    found_here : slice_index table.words word ≡ word_of here
    found_here = word_at table.words (table_in limits history) word holds.words_are

    loses : slice_index table.words word ≢ old → Leaves table (slice_index table.words word)
    loses miss =
        let word_is = word_seen limits history me.0.limits word (slice_index table.words word)
        (sees limits id me.0 history fit word) found_here low holds.legal holds.known in (
          seeing me.0 (reverse history),
          keeps,
          tt,
          (
            history,
            look_keeps rests limit limits id word table.words table.homes table.views history me.0 holds at live,
          ),
          lost_tells (slice_index table.words word) (
            seeing me.0 (reverse history),
            me.1,
          ) miss (looks_all limits id me.0 history fit holds.legal, word_is, refl),
        )

    module _ (read : Record) (formed : IsWellFormed read) (packed : old ≡ word_of read)
        (written : new ≡ word_of (after_kind read kind)) (may : MayAdd me.0 word read kind)
        (hit : slice_index table.words word ≡ old) where
      same : here ≡ read
      same = word_once here read (well_formed limits.count limits.ceiling history word low holds.legal holds.known)
          formed (sym found_here ∙ (hit ∙ packed))

      fits_read : kind_fits limits.ceiling history read id word kind ≡ true
      fits_read =
          subst (λ (pair : Limits × ℕ). kind_fits pair.0.ceiling history read pair.1 word kind ≡ true)
          (λ i. (fit.limits_are i, fit.number_is i)) (may.follows history (fit_by_view limits id me.0 history fit))

      fits_here : kind_fits limits.ceiling history here id word kind ≡ true
      fits_here =
          subst (λ (state : Record). kind_fits limits.ceiling history state id word kind ≡ true) (sym same) fits_read

      fitting : fits limits.ceiling history (table_in limits history) entry ≡ true
      fitting = fits_kind limits id word history kind within fits_here

      legal : IsLegalLatest limits.count limits.ceiling (entry ∷ history)
      legal = (fitting, holds.legal)

      known : AreKnown (entry ∷ history)
      known = All-cons (λ one. KnownKind one.kind) entry history may.known holds.known

      made : new ≡ word_of (after_kind here kind)
      made = written ∙ ap (λ (state : Record). word_of (after_kind state kind)) (sym same)

      word_made : IsWordAt new (adding me.0 word kind (reverse (entry ∷ history))) word
      word_made =
          word_seen limits (entry ∷ history) me.0.limits word new (sees_own limits id word me.0 history fit within kind)
          (made ∙ ap word_of (sym (record_adds limits entry history fitting))) low legal known

      move : Moves rests limit limits table.homes history id word me.0 me.1 within fit.limits_are holds.slots holds.home
          kind
      move = moves rests limit limits table.homes history id word me.0 me.1 within fit.limits_are holds.slots holds.home
          kind may.begins fits_here fitting

      wins : Leaves table new
      wins = (
        adding me.0 word kind (reverse (entry ∷ history)),
        move.act,
        move.valid,
        (
          entry ∷ history,
          adds_keep rests limit limits id word new table.words table.homes (homes_after table.homes me.1
              move.act) table.views history me.0 kind holds within at live move.slots move.at_home may.free
              may.own_server
              may.known fitting made,
        ),
        won_tells (slice_index table.words word) (
          adding me.0 word kind (reverse (entry ∷ history)),
          carried_after me.1 move.act,
        ) hit (
          adds_all limits id word me.0 history fit within kind legal,
          word_made,
          move.takes,
        ),
      )

exchanges : {S Q : Type 0} (rests : S → ℕ → List Q → Type 0) (limit : S → ℕ) (limits : Limits)
    (slots id word old new : ℕ) (me : Me (Option S) (View Q)) (read : Record) (kind : Kind Q)
    → limits.ceiling < 2 ^ 36 → word < limits.count → me.0.stage ≡ Acting → IsWellFormed read → old ≡ word_of read
    → new ≡ word_of (after_kind read kind)
    → MayAdd me.0 word read kind
    → Allows (Rule rests limit limits) slots id me word (λ n. either (n == old) new n)
    (Exchanged rests limit kind (step {S = Option S} slots word old new none) me)
exchanges rests limit limits slots id word old new me read kind low within live formed packed written may table rule
    size at small =
    exchanged (slice_index table.words word) old new (Leaves rests limit limits slots id word old new me kind table)
    (wins rests limit limits slots id word old new me kind low within live table rule.0 rule.1 at read formed packed
    written may)
    (loses rests limit limits slots id word old new me kind low within live table rule.0 rule.1 at)

pub exchange_allowed : {S Q : Type 0} (rests : S → ℕ → List Q → Type 0) (limit : S → ℕ) (limits : Limits)
    (slots id shard word old new : ℕ) (me : Me (Option S) (View Q)) (read : Record) (kind : Kind Q)
    → word ≡ shard → limits.ceiling < 2 ^ 36 → shard < limits.count → me.0.stage ≡ Acting → IsWellFormed read
    → old ≡ word_of read → new ≡ word_of (after_kind read kind)
    → MayAdd me.0 shard read kind
    → Allows (Rule rests limit limits) slots id me word (λ n. either (n == old) new n)
    (Exchanged rests limit kind (step {S = Option S} slots word old new none) me)
exchange_allowed rests limit limits slots id shard word old new me read kind at low within live formed packed written
    may =
    exchanges rests limit limits slots id word old new me read kind low (subst (λ k. k < limits.count) (sym at) within)
    live formed packed written (subst (λ k. MayAdd me.0 k read kind) (sym at) may)

-- the store of the one who holds the shard, whose body has come back to the slot that it carries
pub stores : {S Q : Type 0} (rests : S → ℕ → List Q → Type 0) (limit : S → ℕ) (limits : Limits) (slots id word new : ℕ)
    (view : View Q) (body : S) (held : HeldShard Q) (ending : Ending Q)
    → limits.ceiling < 2 ^ 36 → view.stage ≡ Acting → view.held ≡ Some held → held.shard ≡ word → new ≡ word_of
    (after_done held.state) → rests body (first_after held.first held.all ending) (all_after held.all ending)
    → limit body ≡ limit_at limits word
    → Allows (Rule rests limit limits) slots id (view, (word, Some body) ∷ []) word (λ _. new)
    (λ _. Stored (Done ending) (step {S = Option S} slots word new 0 none) (view, (word, Some body) ∷ []) new)
stores {S} {Q} rests limit limits slots id word new view body held ending low live holding shard written gains
    same_limit table rule size at small =
    let history = rule.0 in
    let holds : RuleHolds rests limit limits table.words table.homes table.views history = rule.1 in
    let fit = holds.fit id view at live in
    let is = fit.held held holding in
    let kind : Kind Q = Done ending in
    let here = record_at (table_in limits history) word in
    let within : word < limits.count = subst (λ k. k < limits.count) shard is.known in
    let state : here ≡ held.state = subst (λ k. record_at (table_in limits history) k ≡ held.state) shard is.state in
    let own = subst (λ k. is_admission_of id (latest_of history k) ≡ true) shard is.own in
    let fitting = fits_kind limits id word history kind within
    (and_from _ _ (ap (λ (one : Record). one.admitted) state ∙ is.admitted) own) in
    let entry = entry_of id word kind in
    let legal : IsLegalLatest limits.count limits.ceiling (entry ∷ history) = (fitting, holds.legal) in
    let known = All-cons (λ one. KnownKind one.kind) entry history tt holds.known in
    let made : new ≡ word_of (after_kind here kind) =
    written ∙ ap (λ (one : Record). word_of (after_done one)) (sym state) in
    let first : first_of (reverse history) word ≡ held.first =
    subst (λ k. first_of (reverse history) k ≡ held.first) shard is.first in
    let all : all_of (reverse history) word ≡ held.all =
    subst (λ k. all_of (reverse history) k ≡ held.all) shard is.all in
    let gained = rests_at rests body (first_after held.first held.all ending)
    (first_after (first_of (reverse history) word) (all_of (reverse history) word) ending)
    (all_after held.all ending) (all_after (all_of (reverse history) word) ending)
    (λ i. first_after (sym first i) (sym all i) ending) (λ i. all_after (sym all i) ending) gains in
    let at_home = home_ended rests limit limits table.homes history holds.home entry ending body refl
    (subst (λ many. word < many) (sym holds.slots) within) gained same_limit fitting in (
      adding view word kind (reverse (entry ∷ history)),
      gives,
      tt,
      (
        entry ∷ history,
        adds_keep rests limit limits id word new table.words table.homes (slice_set table.homes word
            (some (Some body))) table.views history view kind holds within at live (length-set table.homes word
            (some (Some body)) ∙ holds.slots) at_home tt (λ server _. refl) tt fitting made,
      ),
      (
        adds_all limits id word view history fit within kind legal,
        word_seen limits (entry ∷ history) view.limits word new (sees_own limits id word view history fit within kind)
            (made ∙ ap word_of (sym (record_adds limits entry history fitting))) low legal known,
        all_here entry history ∙ ap (λ requests. all_after requests ending) (all ∙ sym (ap all_held holding)),
        first_here entry history
            ∙ (λ i. first_after ((first ∙ sym (ap first_held holding)) i) ((all ∙ sym (ap all_held holding)) i) ending),
        refl,
      ),
    )

above : (n : ℕ) → 0 < n → n ≢ 0
above n more is = omega arith

-- the first load of a new seat
pub enters : {S Q : Type 0} (rests : S → ℕ → List Q → Type 0) (limit : S → ℕ) (limits : Limits) (slots word : ℕ)
    (server : Option ℕ) (first : Me (Option S) (View Q)) → first.0.limits ≡ limits
    → Enters {S = Option S} (Rule rests limit limits) slots word
    (λ n view. Entered server (step {S = Option S} slots word 0 0 none) first n (view, []))
enters {S} {Q} rests limit limits slots word server first same table rule size small =
    let history = rule.0 in
    let holds : RuleHolds rests limit limits table.words table.homes table.views history = rule.1 in
    let n = length table.views in
    let nobody : NoneBy n history = holds.unused n (le_refl n) in
    let mine : View Q = newcomer limits n server (reverse history) in
    let long = length-append table.views (mine ∷ []) in
    let fit : IsTrueView limits n mine history = record {
      limits_are = refl;
      number_is = refl;
      later = [];
      seen = reverse-reverse history;
      others = All-nil (λ one. one.actor ≢ n);
      server = λ server is. acts_as-none history n server nobody;
      held = λ held is. absurd (cc);
    } in
    let chaired = holds.chaired in
    let legal : IsLegal limits.count limits.ceiling (reverse history) =
    subst (IsLegalLatest limits.count limits.ceiling) (sym (reverse-reverse history)) holds.legal in (
      mine,
      (
        history,
        record {
          legal = holds.legal;
          known = holds.known;
          words_are = holds.words_are;
          slots = holds.slots;
          home = holds.home;
          fit = views_pushed (λ m one. one.stage ≡ Acting → IsTrueView limits m one history) table.views mine holds.fit
              (λ _. fit);
          cut = views_pushed (λ m one. one.stage ≡ Cut → IsCut limits m one history) table.views mine holds.cut
              (λ is. absurd (acting_uncut Acting refl is));
          heard = told_pushed table.views mine history refl holds.heard;
          parents = parents_pushed table.views mine
              (λ parent names. absurd (names_none mine parent refl refl names)) holds.parents;
          unused = λ m past. holds.unused m (omega arith);
          chaired = omega arith;
        },
      ),
      (
        above n chaired,
        NoneBy-reverse n history nobody,
        subst (λ (its : Limits). IsLegal its.count its.ceiling (reverse history)) (sym same) legal,
        ap (λ (its : Limits). newcomer its n server (reverse history)) (sym same),
      ),
    )

-- the body at a place of a list of bodies
nth : {S : Type 0} (limit : S → ℕ) (bodies : List S) (shard : ℕ) → shard < length bodies
    → (body : S) × (get_elem? (map some (map Some bodies)) shard ≡ some (some (Some body)))
    × (get_elem? bodies shard ≡ some body) × (limit body ≡ slice_index_or (map limit bodies) shard 0)
nth limit [] shard within = absurd (omega arith)
nth limit (body ∷ bodies) zero within = (body, refl, refl, refl)
nth limit (body ∷ bodies) (suc shard) within = nth limit bodies shard (omega arith)

all_at : {S : Type 0} (P : S → Type 0) (bodies : List S) (shard : ℕ) (body : S) → All P bodies
    → get_elem? bodies shard ≡ some body → P body
all_at P [] shard body all at = absurd (some-ne-none body (sym at))
all_at P (one ∷ bodies) zero body all at = subst P (some-injective one body at) (All-head P one bodies all)
all_at P (one ∷ bodies) (suc shard) body all at = all_at P bodies shard body (All-tail P one bodies all) at

-- a board to which nothing has happened, with bodies that have applied nothing
pub begins : {S Q : Type 0} (rests : S → ℕ → List Q → Type 0) (limit : S → ℕ) (limits : Limits) (words : List ℕ)
    (bodies : List S) (slots : List (Option S)) → words ≡ replicate limits.count 0 → limits.count ≡ length bodies
    → limits.bodies ≡ map limit bodies → slots ≡ map Some bodies → All (λ body. rests body 0 []) bodies
    → Rule rests limit limits (opening words slots (newcomer limits 0 None []))
begins {S} {Q} rests limit limits words bodies slots are many sizes put empty = (
  [],
  record {
    legal = tt;
    known = All-nil (λ one. KnownKind one.kind);
    words_are = are ∙ sym (map-replicate word_of limits.count vacant);
    slots = length-map slots some ∙ (ap length put ∙ (length-map bodies Some ∙ sym many));
    home = λ shard within idle.
        let body = nth limit bodies shard (subst (λ n. shard < n) many within) in (
          body.0,
          ap (λ (all : List (Option S)). get_elem? (map some all) shard) put ∙ body.1,
          all_at (λ one. rests one 0 []) bodies shard body.0 empty body.2,
          body.3 ∙ ap (λ all. slice_index_or all shard 0) (sym sizes),
        );
    fit = λ n view at live. first n view at;
    cut = λ n view at is. absurd (acting_uncut view.stage (ap (λ (one : View Q). one.stage) (only n view at)) is);
    heard =
        λ n view at heard is. absurd (none_some heard (sym (ap (λ (one : View Q). one.heard) (only n view at)) ∙ is));
    parents = λ n view at parent names. absurd (names_none view parent
        (ap (λ (one : View Q). one.parent) (only n view at)) (ap (λ (one : View Q). one.heard) (only n view at)) names);
    unused = λ n past. All-nil (λ one. one.actor ≢ n);
    chaired = omega arith;
  },
)
  where
    only : (n : ℕ) (view : View Q) → get_elem? (newcomer limits 0 None [] ∷ []) n ≡ some view
        → view ≡ newcomer limits 0 None []
    only zero view at = sym (some-injective _ _ at)
    only (suc n) view at = absurd (some-ne-none view (sym at))

    first : (n : ℕ) (view : View Q) → get_elem? (newcomer limits 0 None [] ∷ []) n ≡ some view
        → IsTrueView limits n view []
    first zero view at = subst (λ (one : View Q). IsTrueView limits 0 one []) (some-injective _ _ at) (record {
      limits_are = refl;
      number_is = refl;
      later = [];
      seen = refl;
      others = All-nil (λ one. one.actor ≢ 0);
      server = λ server is. absurd (cc);
      held = λ held is. absurd (cc);
    })
    first (suc n) view at = absurd (some-ne-none view (sym at))

-- the slot that is carried, once its body is back
pub carries_body : {S Q : Type 0} (me : Me (Option S) (View Q)) (view : View Q) (carried : List (ℕ × Option S))
    (at shard : ℕ) (body : S) → me ≡ (view, (at, Some body) ∷ rest carried) → carried ≡ (shard, None) ∷ []
    → me ≡ (view, (at, Some body) ∷ [])
carries_body {S} {Q} me view carried at shard body out slots =
    out ∙ ap (λ (all : List (ℕ × Option S)). (view, (at, Some body) ∷ rest all)) slots

-- the store that spends a permit
pub held_some : {Q : Type 0} (held : Option (HeldShard Q)) (shard : ℕ) (state : Record)
    → option_map {U = ℕ × Record} (λ (one : HeldShard Q). (one.shard, one.state)) held ≡ Some (shard, state)
    → (one : HeldShard Q) × (held ≡ Some one) × (one.shard ≡ shard) × (one.state ≡ state)
held_some None shard state is = absurd (none_some (shard, state) is)
held_some (Some one) shard state is =
    let same = same_some (one.shard, one.state) (shard, state) is in
    (one, refl, ap (λ (it : ℕ × Record). it.0) same, ap (λ (it : ℕ × Record). it.1) same)

module _ {S Q : Type 0} (id : TableId) (view : View Q) (pass : PassValue Q) (permit : PermitValue S)
    (of_pass : pass_value id view ≡ pass) (holds : HoldsPermit pass permit) where
  held_view : (one : HeldShard Q) × (view.held ≡ Some one) × (one.shard ≡ permit.shard) × (one.state ≡ permit.state)
  held_view =
      let is = held_some pass.held permit.shard permit.state holds.1 in
      (is.0, ap (λ (it : PassValue Q). it.held) of_pass ∙ is.1, is.2, is.3)

  pub held_within : IfSome view.held (IsHeldOf view.limits) → permit.shard < view.limits.count
  held_within within =
      let is = held_view in
      let at : IsHeldOf view.limits is.0 =
      subst (λ (held : Option (HeldShard Q)). IfSome held (IsHeldOf view.limits)) is.1 within in
      subst (λ shard. shard < view.limits.count) is.2 at.0

  same_held : view.held ≡ pass.held
  same_held = ap (λ (it : PassValue Q). it.held) of_pass

  pub bounds : IfSome view.held (IsHeldOf view.limits)
      → (first_held pass.held ≤ length (all_held pass.held)) × (length (all_held pass.held) ≤ view.limits.ceiling)
  bounds within =
      held_bounds view.limits pass.held
      (subst (λ (held : Option (HeldShard Q)). IfSome held (IsHeldOf view.limits)) same_held within)

  -- the slot that the pass carries is that of the permit's shard, and empty
  pub slot_held : slots_of {S = S} view.held ≡ (permit.shard, None) ∷ []
  slot_held =
      let is = held_view in
      ap slots_of is.1 ∙ ap (λ shard. (shard, None) ∷ []) is.2

  pub all_is : all_held view.held ≡ all_held pass.held
  all_is = ap all_held same_held

  pub first_is : first_held view.held ≡ first_held pass.held
  first_is = ap first_held same_held

  pub store_allowed : (rests : S → ℕ → List Q → Type 0) (limit : S → ℕ) (limits : Limits) (slots seat word new : ℕ)
      (body : S) (me : Me (Option S) (View Q)) (ending : Ending Q)
      → me ≡ (view, (word, Some body) ∷ []) → limits.ceiling < 2 ^ 36 → view.stage ≡ Acting → permit.shard ≡ word
      → new ≡ word_of (after_done permit.state)
      → EndsWith rests pass.held body ending
      → limit body ≡ limit_at limits word
      → Allows (Rule rests limit limits) slots seat me word (λ _. new)
      (λ _. Stored (Done ending) (step {S = Option S} slots word new 0 none) me new)
  store_allowed rests limit limits slots seat word new body me ending carries low live shard written gains same_limit =
      let is = held_view in
      let ends : EndsWith rests (Some is.0) body ending =
      subst (λ (held : Option (HeldShard Q)). EndsWith rests held body ending) (sym same_held ∙ is.1) gains in
      let allowed = stores rests limit limits slots seat word new view body is.0 ending low live is.1 (is.2 ∙ shard)
      (written ∙ ap (λ (state : Record). word_of (after_done state)) (sym is.3))
      (rests_after rests (Some is.0) body ending ends) same_limit in
      subst (λ (my : Me (Option S) (View Q)). Allows (Rule rests limit limits) slots seat my word (λ _. new)
      (λ _. Stored (Done ending) (step {S = Option S} slots word new 0 none) my new)) (sym carries) allowed
