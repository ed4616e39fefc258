-- The result of a board's last state.
use Rattle.std.proofs.Common.{◌≡◌, ◌≢◌, append_assoc, ℕ, zero, suc, ◌<◌, ◌^◌, Bool, true, false, List, [], ◌∷◌, ◌++◌}
use Rattle.std.proofs.Common.{length, refl, sym, ap, ◌∙◌, subst, arith, ⊎_elim}
use Rattle.std.specs.Prelude.{Option, Some, None, reverse, slice_index, slice_index_or, slice_set, if◌then◌else◌}
use Rattle.std.proofs.lemmas.List.{append-nil, length-map}
use Rattle.std.proofs.lemmas.List.Elements.{All-append}
use mathlib.Core.Option.{some, some-injective, some-ne-none}
use lib.ListN.{get_elem?}
use Rattle.atomic_table.specs.Seated.{TableId}
use Rattle.atomic_table.specs.Table.{Final, Seen}
use Rattle.sm_ownership.specs.declared.entry.Entry.{Entry}
use Rattle.sm_ownership.specs.declared.record.Record.{Record}
use Rattle.sm_ownership.specs.History.{IsLegal, all_of, first_of, record_at, NoneBy}
use Rattle.sm_word.specs.lemmas.Histories.{well_formed}
use Rattle.sm_word.specs.Word.{IsWellFormed, word_of}
use Rattle.sm_word.specs.lemmas.Words.{word_once}
use Rattle.sm_rule.specs.declared.limits.Limits.{Limits}
use Rattle.sm_rule.specs.declared.view.Stage.TheVariants.{Acting}
use Rattle.sm_rule.specs.declared.view.View.{View}
use Rattle.sm_rule.specs.Boards.{limit_at}
use Rattle.sm_rule.specs.Changes.{chair_value}
use Rattle.sm_rule.specs.Closing.{AreLeft, AreTaken, AreWords, IsTaken, WasClosed}
use Rattle.sm_rule.specs.Passes.{PassValue}
use Rattle.sm_rule.specs.Views.{IsMet, Looks}
use Rattle.sm_rule.specs.Rule.{IsTrueView, RuleHolds, Rule, table_in}
use Rattle.sm_rule.proofs.Keeping.{in_order, legal_all, length-table, others_all, sees, word_at}
use Rattle.sm_rule.proofs.Places.{at_last}

-- a word of a list, and its place
index_at : (words : List ℕ) (at word : ℕ) → get_elem? words at ≡ some word → slice_index words at ≡ word
index_at [] at word is = absurd (some-ne-none word (sym is))
index_at (one ∷ words) zero word is = some-injective one word is
index_at (one ∷ words) (suc at) word is = index_at words at word is

index_within : (words : List ℕ) (at word : ℕ) → get_elem? words at ≡ some word → at < length words
index_within [] at word is = absurd (some-ne-none word (sym is))
index_within (one ∷ words) zero word is = omega arith
index_within (one ∷ words) (suc at) word is = let more = index_within words at word is in omega arith

-- one more row that was taken
pub taken_pushed :
    {S : Type 0} (words : List ℕ) (slots : List (Option S)) (rows : List (Record × Option S)) (row : Record × Option S)
    → AreTaken words slots rows → IsTaken words slots (length rows) row → AreTaken words slots (rows ++ row ∷ [])
taken_pushed {S} words slots rows row taken next shard other at =
    ⊎_elim
    (λ (before : get_elem? rows shard ≡ some other). taken shard other before)
    (λ (last : (shard ≡ length rows) × (row ≡ other)). subst
    (λ (pair : ℕ × (Record × Option S)). IsTaken words slots pair.0 pair.1) (λ i. (sym last.0 i, last.1 i)) next)
    (at_last rows row other shard at)

-- a word that has a record, and the record made from it
pub word_taken : (words : List ℕ) → AreWords words → (shard word : ℕ) (state : Record)
    → get_elem? words shard ≡ some word → ((one : Record) → IsWellFormed one → word_of one ≡ word → state ≡ one)
    → IsWellFormed state × (get_elem? words shard ≡ some (word_of state))
word_taken words are shard word state at made =
    let its = are shard word at in
    let same = made its.0 its.1 its.2 in
    (subst IsWellFormed (sym same) its.1, at ∙ ap some (sym (ap word_of same ∙ its.2)))

-- the marks of slots, of which one more is taken
pub unset : (marks : List Bool) (at : ℕ) → slice_index_or (slice_set marks at false) at false ≡ false
unset [] zero = refl
unset [] (suc at) = refl
unset (one ∷ marks) zero = refl
unset (one ∷ marks) (suc at) = unset marks at

module _ {S Q : Type 0} (rests : S → ℕ → List Q → Type 0) (limit : S → ℕ) (limits : Limits) (id : ℕ) (view : View Q)
    (words : List ℕ) (slots : List (Option S)) (low : limits.ceiling < 2 ^ 36)
    (last : Final (Seen (Rule rests limit limits) id view) words slots) where
  abbrev history : List (Entry Q)
  history = last.1.0.0

  abbrev holds : RuleHolds rests limit limits last.0.words last.0.homes last.0.views history
  holds = last.1.0.1

  -- the word of a shard is that of its record
  word_left : (shard word : ℕ) → get_elem? words shard ≡ some word
      → word_of (record_at (table_in limits history) shard) ≡ word
  word_left shard word at =
      let here = index_at words shard word at in
      sym (word_at last.0.words (table_in limits history) shard holds.words_are)
      ∙ (ap (λ all. slice_index all shard) last.2 ∙ here)

  formed_left : (shard : ℕ) → IsWellFormed (record_at (table_in limits history) shard)
  formed_left shard = well_formed limits.count limits.ceiling history shard low holds.legal holds.known

  pub are_words : AreWords words
  are_words shard word at = (record_at (table_in limits history) shard, formed_left shard, word_left shard word at)

  words_many : length words ≡ limits.count
  words_many = ap length (sym last.2)
      ∙ (ap length holds.words_are ∙ (length-map (table_in limits history) word_of ∙ length-table limits history))

  -- a row that was taken is the rest of its shard
  row_left : (rows : List (Record × Option S)) → AreTaken words slots rows → (shard : ℕ) (row : Record × Option S)
      → get_elem? rows shard ≡ some row
      → (row.0 ≡ record_at (table_in limits history) shard) × (row.0.admitted ≡ true → row.1 ≡ None)
      × (row.0.admitted ≡ false → (body : S) × (row.1 ≡ Some body) × rests body (first_of (reverse history) shard)
      (all_of (reverse history) shard) × (limit body ≡ limit_at limits shard))
  row_left rows taken shard row at =
      let is = taken shard row at in
      let same : row.0 ≡ record_at (table_in limits history) shard =
      word_once row.0 (record_at (table_in limits history) shard) is.0 (formed_left shard)
      (sym (word_left shard (word_of row.0) is.1)) in
      let within : shard < limits.count =
      subst (λ many. shard < many) words_many (index_within words shard (word_of row.0) is.1) in (
        same,
        (λ busy. is.2.2 ∙ ap (λ (flag : Bool). if flag then None else is.2.0) busy),
        (λ idle.
            let home = holds.home shard within (ap (λ (state : Record). state.admitted) (sym same) ∙ idle) in
            let lies : get_elem? slots shard ≡ some (Some home.0) = last.4 shard (Some home.0) home.1 in
            let slot : is.2.0 ≡ Some home.0 = some-injective is.2.0 (Some home.0) (sym is.2.1 ∙ lies) in
            (home.0, is.2.2 ∙ (ap (λ (flag : Bool). if flag then None else is.2.0) idle ∙ slot), home.2, home.3)),
      )

  module _ (live : view.stage ≡ Acting) (chair : view.number ≡ 0) where
    abbrev fit : IsTrueView limits id view history
    fit = holds.fit id view last.1.1 live

    -- the history that the control's seat had seen, and the later part, make up the whole
    whole : reverse history ≡ view.seen ++ reverse fit.later
    whole = in_order fit.later view.seen history fit.seen

    all_left : (rows : List (Record × Option S)) → AreTaken words slots rows → length rows ≡ limits.count
        → AreLeft rests limit view.limits (reverse history) rows
    all_left rows taken many = (
      many ∙ ap (λ (its : Limits). its.count) (sym fit.limits_are),
      λ shard row at.
          let left = row_left rows taken shard row at in (
            left.0 ∙ sym (sees limits id view history fit shard),
            left.1,
            λ idle. let body = left.2 idle in (
              body.0,
              body.1,
              body.2,
              body.3 ∙ ap (λ (its : Limits). limit_at its shard) (sym fit.limits_are),
            ),
          ),
    )

    -- the seat is the chair's, and has taken in the pass's
    module _ (first : View Q) (pass : PassValue Q) (looked : Looks first view)
        (met : IsMet pass.number pass.seen view.seen) where
      after_first : reverse history ≡ first.seen ++ (looked.0.0 ++ reverse fit.later)
      after_first =
          whole ∙ (ap (λ entries. entries ++ reverse fit.later) (looked.0.1 ∙ append-nil (first.seen ++ looked.0.0))
          ∙ append_assoc first.seen looked.0.0 (reverse fit.later))

      after_pass : reverse history ≡ pass.seen ++ (met.0 ++ reverse fit.later)
      after_pass = whole
          ∙ (ap (λ entries. entries ++ reverse fit.later) met.1 ∙ append_assoc pass.seen met.0 (reverse fit.later))

      same : view.limits ≡ first.limits
      same = ap (λ (one : View Q). one.limits) looked.1

      closed_after : (board : TableId) (rows : List (Record × Option S)) → AreTaken words slots rows
          → length rows ≡ limits.count → WasClosed rests limit (chair_value board first) pass rows
      closed_after board rows taken many =
          let legal : IsLegal view.limits.count view.limits.ceiling (reverse history) =
          legal_all limits id view history fit holds.legal in
          let none : NoneBy 0 (reverse fit.later) =
          subst (λ n. NoneBy n (reverse fit.later)) chair (others_all limits id view history fit) in
          let others : NoneBy 0 looked.0.0 =
          subst (λ n. NoneBy n looked.0.0) (sym (ap (λ (one : View Q). one.number) looked.1) ∙ chair) looked.0.2 in (
            looked.0.0 ++ reverse fit.later,
            subst (λ (pair : Limits × List (Entry Q)). IsLegal pair.0.count pair.0.ceiling pair.1)
                (λ i. (same i, after_first i)) legal,
            All-append (λ entry. entry.actor ≢ 0) looked.0.0 (reverse fit.later) others none,
            (met.0 ++ reverse fit.later, sym after_first ∙ after_pass),
            subst (λ (pair : Limits × List (Entry Q)). AreLeft rests limit pair.0 pair.1 rows)
                (λ i. (same i, after_first i)) (all_left rows taken many),
          )

  -- the same for an acting chair that has taken in the pass's seat
  pub was_closed : (first : View Q) (pass : PassValue Q) → Looks first view → first.stage ≡ Acting → first.number ≡ 0
      → IsMet pass.number pass.seen view.seen → (board : TableId) (rows : List (Record × Option S))
      → AreTaken words slots rows → length rows ≡ limits.count
      → WasClosed rests limit (chair_value board first) pass rows
  was_closed first pass looked live chair met board rows taken many =
      closed_after (ap (λ (one : View Q). one.stage) looked.1 ∙ live)
      (ap (λ (one : View Q). one.number) looked.1 ∙ chair) first pass looked met board rows taken many
