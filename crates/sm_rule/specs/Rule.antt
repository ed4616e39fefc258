-- The rule of a board: the meaning of its words, the places of the bodies, and the knowledge of each seat.
use Rattle.std.specs.Prelude.{ℕ, true, false, ◌≡◌, ◌≢◌, ◌<◌, ◌≤◌, ◌⊎◌, List, ◌++◌, Option, Some, length, map, reverse}
use mathlib.Core.Option as math
use mathlib.Core.Option.{some}
use lib.ListN.{get_elem?}
use Rattle.atomic_table.specs.Table.{State}
use Rattle.sm_ownership.specs.declared.entry.Entry.{Entry}
use Rattle.sm_ownership.specs.declared.record.Record.{Record}
use Rattle.sm_ownership.specs.History.{IsLegalLatest, acts_as, all_of, first_of, is_admission_of, latest_of, record_at}
use Rattle.sm_ownership.specs.History.{table_of_latest, NoneBy}
use Rattle.sm_word.specs.Known.{AreKnown}
use Rattle.sm_word.specs.Word.{word_of}
use Rattle.sm_rule.specs.Boards.{limit_at}
use Rattle.sm_rule.specs.declared.limits.Limits.{Limits}
use Rattle.sm_rule.specs.declared.view.HeldShard.{HeldShard}
use Rattle.sm_rule.specs.declared.view.Stage.TheVariants.{Acting, Cut, Joined}
use Rattle.sm_rule.specs.declared.view.Heard.{Heard}
use Rattle.sm_rule.specs.declared.view.Parent.{Parent}
use Rattle.sm_rule.specs.declared.view.View.{View}
use Rattle.sm_rule.specs.Views.{left_behind}

-- below, histories have the latest entry first

-- the table of a history of a board with these limits
abbrev pub table_in : {Q : Type 0} → Limits → List (Entry Q) → List Record
table_in limits history = table_of_latest limits.count limits.ceiling history

-- a seat holds a shard: the shard is admitted, with this seat's number, and since then nothing has happened to it
pub record IsHolding {Q : Type 0} (limits : Limits) (number : ℕ) (held : HeldShard Q)
    (history : List (Entry Q)) : Type 0 where
  pub known : held.shard < limits.count
  pub state : record_at (table_in limits history) held.shard ≡ held.state
  pub admitted : held.state.admitted ≡ true
  pub own : is_admission_of number (latest_of history held.shard) ≡ true
  pub first : first_of (reverse history) held.shard ≡ held.first
  pub all : all_of (reverse history) held.shard ≡ held.all

-- a seat's hold is in the history that it has seen: its own admission is the shard's latest entry
abbrev pub ViewHolds : {Q : Type 0} → View Q → Type 0
ViewHolds {Q} view =
    (held : HeldShard Q) → view.held ≡ Some held → IsHolding view.limits view.number held (reverse view.seen)

-- the knowledge of a seat is true: the history begins with the part that it has seen, and has no more entries of its
-- number
pub record IsTrueView {Q : Type 0} (limits : Limits) (number : ℕ) (view : View Q)
    (history : List (Entry Q)) : Type 0 where
  pub limits_are : view.limits ≡ limits
  pub number_is : view.number ≡ number
  pub later : List (Entry Q)
  pub seen : later ++ reverse view.seen ≡ history
  pub others : NoneBy number later
  pub server : (server : ℕ) → view.server ≡ Some server → acts_as history number server ≡ true
  pub held : (held : HeldShard Q) → view.held ≡ Some held → IsHolding limits number held history

-- a seat that was cut from another has seen a front of the history, which has no entry of the number that it will have
pub record IsCut {Q : Type 0} (limits : Limits) (number : ℕ) (view : View Q) (history : List (Entry Q)) : Type 0 where
  pub limits_are : view.limits ≡ limits
  pub number_new : number ≢ view.number
  pub not_control : number ≢ 0
  pub later : List (Entry Q)
  pub seen : later ++ reverse view.seen ≡ history
  pub unused : NoneBy number history

-- a seat that was taken in had seen a front of the history, which has no more entries of its number
pub record IsHeard {Q : Type 0} (views : List (View Q)) (heard : Heard Q) (history : List (Entry Q)) : Type 0 where
  pub later : List (Entry Q)
  pub seen : later ++ reverse heard.seen ≡ history
  pub others : NoneBy heard.by later
  pub joined : get_elem? views heard.by ≡ some left_behind

-- everything that seats were told is true
abbrev pub AreHeard : {Q : Type 0} → List (View Q) → List (Entry Q) → Type 0
AreHeard views history = (number : ℕ) (view : View _) → get_elem? views number ≡ some view → (heard : Heard _)
    → view.heard ≡ Some heard → IsHeard views heard history

-- a view, or something that it was told, names a seat from which another was cut
abbrev pub Names : {Q : Type 0} → View Q → Parent → Type 0
Names {Q} view parent =
    (view.parent ≡ Some parent) ⊎ ((heard : Heard Q) × (view.heard ≡ Some heard) × (heard.parent ≡ Some parent))

-- there is such a seat, and unless it was taken in, no fewer were cut from it since
abbrev pub IsParent : {Q : Type 0} → List (View Q) → Parent → Type 0
IsParent {Q} views parent =
    (parent.number < length views)
    × ((view : View Q) → get_elem? views parent.number ≡ some view
    → (view.stage ≡ Joined) ⊎ (parent.cuts ≤ view.cuts))

-- the same holds for all parents that views name
abbrev pub AreParents : {Q : Type 0} → List (View Q) → Type 0
AreParents {Q} views =
    (number : ℕ) (view : View Q) → get_elem? views number ≡ some view → (parent : Parent) → Names view parent
    → IsParent views parent

-- the bodies of the idle shards are at home: each rests on all requests that the history has for its shard, and has the
-- shard's limit
abbrev pub AreHome : {S Q : Type 0} → (S → ℕ → List Q → Type 0) → (S → ℕ) → Limits → List (math.Option (Option S))
    → List (Entry Q) → Type 0
AreHome {S} keeps limit limits homes history =
    (shard : ℕ) → shard < limits.count → (record_at (table_in limits history) shard).admitted ≡ false
    → (body : S) × (get_elem? homes shard ≡ some (some (Some body))) × keeps body (first_of (reverse history) shard)
    (all_of (reverse history) shard) × (limit body ≡ limit_at limits shard)

-- the words are those of the table of a legal history of known servers; the bodies of its idle shards are at home; each
-- acting seat knows it as far as it has looked, and so do those that were cut off or taken in; views are right about
-- the seats from which they were cut; a number that no seat has yet has no entry in it
pub record RuleHolds {S Q : Type 0} (keeps : S → ℕ → List Q → Type 0) (limit : S → ℕ) (limits : Limits) (words : List ℕ)
    (homes : List (math.Option (Option S))) (views : List (View Q)) (history : List (Entry Q)) : Type 0 where
  pub legal : IsLegalLatest limits.count limits.ceiling history
  pub known : AreKnown history
  pub words_are : words ≡ map word_of (table_in limits history)
  pub slots : length homes ≡ limits.count
  pub home : AreHome keeps limit limits homes history
  pub fit : (number : ℕ) (view : View Q) → get_elem? views number ≡ some view → view.stage ≡ Acting
      → IsTrueView limits number view history
  pub cut : (number : ℕ) (view : View Q) → get_elem? views number ≡ some view → view.stage ≡ Cut
      → IsCut limits number view history
  pub heard : AreHeard views history
  pub parents : AreParents views
  pub unused : (number : ℕ) → length views ≤ number → NoneBy number history
  pub chaired : 0 < length views

-- there is one history
abbrev pub Rule : {S Q : Type 0} → (S → ℕ → List Q → Type 0) → (S → ℕ) → Limits → State (Option S) (View Q) → Type 0
Rule keeps limit limits table =
    (history : List (Entry _)) × RuleHolds keeps limit limits table.words table.homes table.views history
