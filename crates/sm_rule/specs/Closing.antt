-- The result of a board's end.
use Rattle.std.specs.Prelude.{ℕ, true, false, ◌≡◌, List, ◌++◌, Option, Some, None, length, if◌then◌else◌}
use mathlib.Core.Option.{some}
use lib.ListN.{get_elem?}
use Rattle.sm_ownership.specs.declared.entry.Entry.{Entry}
use Rattle.sm_ownership.specs.declared.record.Record.{Record}
use Rattle.sm_ownership.specs.History.{IsLegal, all_of, first_of, NoneBy}
use Rattle.sm_word.specs.Word.{IsWellFormed, word_of}
use Rattle.sm_rule.specs.declared.limits.Limits.{Limits}
use Rattle.sm_rule.specs.Boards.{limit_at}
use Rattle.sm_rule.specs.Changes.{ChairValue}
use Rattle.sm_rule.specs.Passes.{PassValue}
use Rattle.sm_rule.specs.Views.{Begins, record_in}

-- the rest of a shard after a history: its record, and, if it isn't admitted, its body, which has its limit and rests
-- on all requests in the history for it
abbrev pub IsLeft : {S Q : Type 0} → (S → ℕ → List Q → Type 0) → (S → ℕ) → Limits → List (Entry Q) → ℕ
    → Record × Option S → Type 0
IsLeft {S} keeps limit limits history shard row =
    (row.0 ≡ record_in limits history shard)
    × (row.0.admitted ≡ true → row.1 ≡ None)
    × (row.0.admitted ≡ false → (body : S) × (row.1 ≡ Some body)
    × keeps body (first_of history shard) (all_of history shard) × (limit body ≡ limit_at limits shard))

-- the rows are those of all shards after a history
abbrev pub AreLeft : {S Q : Type 0} → (S → ℕ → List Q → Type 0) → (S → ℕ) → Limits → List (Entry Q)
    → List (Record × Option S) → Type 0
AreLeft {S} keeps limit limits history rows =
    (length rows ≡ limits.count)
    × ((shard : ℕ) (row : Record × Option S) → get_elem? rows shard ≡ some row
    → IsLeft keeps limit limits history shard row)

-- the rows are those of all shards after one legal history, to which only passes have added since the chair last
-- looked, and which extends the history that the pass had seen
abbrev pub WasClosed : {S Q : Type 0} → (S → ℕ → List Q → Type 0) → (S → ℕ) → ChairValue Q → PassValue Q
    → List (Record × Option S) → Type 0
WasClosed {S} {Q} keeps limit chair pass rows =
    (later : List (Entry Q))
    × IsLegal chair.board.limits.count chair.board.limits.ceiling (chair.seen ++ later)
    × NoneBy 0 later
    × Begins pass.seen (chair.seen ++ later)
    × AreLeft keeps limit chair.board.limits (chair.seen ++ later) rows

-- each word is that of a record
abbrev pub AreWords : List ℕ → Type 0
AreWords words =
    (shard word : ℕ) → get_elem? words shard ≡ some word
    → (state : Record) × IsWellFormed state × (word_of state ≡ word)

-- a row has the record of its shard's word, and, if that isn't admitted, the body in its slot
abbrev pub IsTaken : {S : Type 0} → List ℕ → List (Option S) → ℕ → Record × Option S → Type 0
IsTaken {S} words slots shard row =
    IsWellFormed row.0
    × (get_elem? words shard ≡ some (word_of row.0))
    × ((slot : Option S) × (get_elem? slots shard ≡ some slot) × (row.1 ≡ (if row.0.admitted then None else slot)))

abbrev pub AreTaken : {S : Type 0} → List ℕ → List (Option S) → List (Record × Option S) → Type 0
AreTaken {S} words slots rows =
    (shard : ℕ) (row : Record × Option S) → get_elem? rows shard ≡ some row → IsTaken words slots shard row
