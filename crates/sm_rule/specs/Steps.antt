-- The knowledge that each kind of step on a board gives its caller.
use Rattle.std.specs.Prelude.{ℕ, ◌≡◌, ◌≢◌, ◌≤◌, Bool, List, ◌∷◌, true, false, Option, Some, None}
use Rattle.atomic_table.specs.Table.{Me, Step, rest}
use Rattle.sm_ownership.specs.declared.entry.Entry.{Entry}
use Rattle.sm_ownership.specs.declared.entry.Kind.{Kind}
use Rattle.sm_ownership.specs.declared.entry.Kind.TheVariants.{Change as Changed, Admit, Done}
use Rattle.sm_ownership.specs.declared.record.Record.{Record}
use Rattle.sm_ownership.specs.History.{IsLegal, admits_only, all_of, ending_of, first_of, kind_fits, NoneBy}
use Rattle.sm_word.specs.Known.{KnownKind}
use Rattle.sm_word.specs.Word.{IsWellFormed, word_of}
use Rattle.sm_rule.specs.declared.view.Heard.{Heard}
use Rattle.sm_rule.specs.declared.view.Parent.{Parent}
use Rattle.sm_rule.specs.declared.view.View.{View}
use Rattle.sm_rule.specs.Boards.{limit_at}
use Rattle.sm_rule.specs.Bodies.{all_after, first_after}
use Rattle.sm_rule.specs.Rule.{IsTrueView, ViewHolds}
use Rattle.sm_rule.specs.Views.{Adds, Begins, IsMet, Looks, all_held, first_held, half_of, newcomer}
use Rattle.sm_rule.specs.Views.{record_in}

-- the word is that of the shard's record in the history that the view has seen
abbrev pub IsWordAt : {Q : Type 0} → ℕ → View Q → ℕ → Type 0
IsWordAt word view shard =
    (word ≡ word_of (record_in view.limits view.seen shard)) × IsWellFormed (record_in view.limits view.seen shard)

-- a load: more was seen, and the word found is that of the shard's record
abbrev pub Loaded : {S Q : Type 0} → Step S → Me S (View Q) → ℕ → Me S (View Q) → Type 0
Loaded step before found after = Looks before.0 after.0 × IsWordAt found after.0 step.word × (after.1 ≡ before.1)

-- a new seat with its first load: a number that isn't the control's and has no entries, and this server
abbrev pub Entered : {S Q : Type 0} → Option ℕ → Step S → Me S (View Q) → ℕ → Me S (View Q) → Type 0
Entered server step first found after =
    (after.0.number ≢ 0)
    × NoneBy after.0.number after.0.seen
    × IsLegal first.0.limits.count first.0.limits.ceiling after.0.seen
    × (after.0 ≡ newcomer first.0.limits after.0.number server after.0.seen)

-- the view, after its first load, of a seat that was cut from another one: like that of a new seat with the other's
-- server and with as many cuts as the other, except for this parent, for another number than the other's, and for the
-- history, which extends the one that the other had seen
abbrev pub IsHalf : {Q : Type 0} → View Q → Option Parent → View Q → Type 0
IsHalf view parent half =
    (half.number ≢ 0)
    × (half.number ≢ view.number)
    × NoneBy half.number half.seen
    × Begins view.seen half.seen
    × IsLegal view.limits.count view.limits.ceiling half.seen
    × (half ≡ half_of view parent half.number half.seen)

-- the first load of a seat that was cut from another
abbrev pub Enrolled : {S Q : Type 0} → Step S → Me S (View Q) → ℕ → Me S (View Q) → Type 0
Enrolled step before found after = IsHalf before.0 before.0.parent after.0 × (after.1 ≡ before.1)

-- if the seat that was taken in was cut from this one, no fewer were cut from this one since
abbrev pub KnowsCuts : {Q : Type 0} → View Q → Type 0
KnowsCuts {Q} view =
    (heard : Heard Q) → view.heard ≡ Some heard → (parent : Parent) → heard.parent ≡ Some parent
    → parent.number ≡ view.number → parent.cuts ≤ view.cuts

-- the load after another seat was taken in: more was seen, as at any load, and everything that the other had seen; the
-- shard that is held is still held; and the seat knows the seats that were cut from it
abbrev pub Met : {S Q : Type 0} → Step S → Me S (View Q) → ℕ → Me S (View Q) → Type 0
Met step before found after =
    Looks before.0 after.0
    × ((heard : Heard _) → before.0.heard ≡ Some heard → IsMet heard.by heard.seen after.0.seen)
    × ViewHolds after.0
    × KnowsCuts before.0
    × (after.1 ≡ before.1)

-- an admission takes the shard's slot, with a body that has the shard's limit and rests on all requests of the shard; a
-- change takes none
abbrev pub TakesBody : {S Q : Type 0} → (S → ℕ → List Q → Type 0) → (S → ℕ) → Kind Q → ℕ → List (ℕ × Option S) → View Q
    → List (ℕ × Option S) → Type 0
TakesBody {S} keeps limit (Admit server mode) shard before view after =
    (body : S) × (after ≡ (shard, Some body) ∷ before) × keeps body (first_of view.seen shard) (all_of view.seen shard)
    × (limit body ≡ limit_at view.limits shard)
TakesBody keeps limit _ shard before view after = after ≡ before

-- an exchange that is won adds an admission or a change to the history that was seen; an exchange that is lost is a
-- load
abbrev pub Exchanged : {S Q : Type 0} → (S → ℕ → List Q → Type 0) → (S → ℕ) → Kind Q → Step (Option S)
    → Me (Option S) (View Q) → ℕ → Me (Option S) (View Q) → Type 0
Exchanged keeps limit kind step before found after =
    (found ≡ step.first → Adds before.0 step.word kind after.0 × IsWordAt step.second after.0 step.word
    × TakesBody keeps limit kind step.word before.1 after.0 after.1)
    × (found ≢ step.first → Loaded step before found after)

-- a store adds the end of an admission to the history that was seen; the shard's requests are then those that such an
-- end makes from its requests at the admission; and it gives back the slot that was taken last
abbrev pub Stored : {S Q : Type 0} → Kind Q → Step S → Me S (View Q) → ℕ → Me S (View Q) → Type 0
Stored kind step before found after =
    Adds before.0 step.word kind after.0
    × IsWordAt found after.0 step.word
    × (all_of after.0.seen step.word ≡ all_after (all_held before.0.held) (ending_of kind))
    × (first_of after.0.seen step.word
    ≡ first_after (first_held before.0.held) (all_held before.0.held) (ending_of kind))
    × (after.1 ≡ rest before.1)

-- the control holds nothing when it changes a stand
abbrev pub IsFree : {Q : Type 0} → View Q → Kind Q → Type 0
IsFree view (Changed change) = view.held ≡ None
IsFree view (Admit server mode) = Unit {0}
IsFree view (Done ending) = Unit {0}

abbrev pub is_end : {Q : Type 0} → Kind Q → Bool
is_end (Done ending) = true
is_end _ = false

-- a seat with this view may add an entry of this kind, which ends no admission, if it finds the shard's record as it
-- was read
pub record MayAdd {Q : Type 0} (view : View Q) (shard : ℕ) (state : Record) (kind : Kind Q) : Type 0 where
  pub known : KnownKind kind
  pub begins : is_end kind ≡ false
  pub free : IsFree view kind
  pub own_server : (server : ℕ) → view.server ≡ Some server → admits_only server kind ≡ true
  pub follows : (history : List (Entry Q)) → IsTrueView view.limits view.number view history
      → kind_fits view.limits.ceiling history state view.number shard kind ≡ true
