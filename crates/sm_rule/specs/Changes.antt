-- The chair of a board as contracts see it, and how looking and changing affect it.
use Rattle.std.specs.Prelude.{ℕ, true, false, ◌≡◌, ◌<◌, List, [], ◌∷◌, None, length, slice_index_or}
use Rattle.atomic_table.specs.Seated.{TableId}
use Rattle.sm_ranges.specs.declared.stand.Stand.{Stand}
use Rattle.sm_ranges.specs.declared.stand.Stand.TheVariants.{Vacant}
use Rattle.sm_ownership.specs.declared.change.Change.{Change}
use Rattle.sm_ownership.specs.declared.entry.Entry.{Entry}
use Rattle.sm_ownership.specs.declared.entry.Kind.TheVariants.{Change as Changed}
use Rattle.sm_ownership.specs.declared.record.Record.{Record}
use Rattle.sm_rule.specs.declared.change_refusal.ChangeRefusal.{ChangeRefusal}
use Rattle.sm_rule.specs.declared.change_refusal.ChangeRefusal.TheVariants.{Spent, Busy, Raced}
use Rattle.sm_rule.specs.Admissions.{Races}
use Rattle.sm_rule.specs.declared.view.Stage.TheVariants.{Acting}
use Rattle.sm_rule.specs.declared.view.View.{View}
use Rattle.sm_rule.specs.Boards.{BoardValue}
use Rattle.sm_rule.specs.Views.{Grows, HasSeenLegal, entry_of, record_in}

-- the board, and the history that the chair has seen. Its number is 0
pub record ChairValue (Q : Type 0) : Type 0 where
  pub board : BoardValue
  pub seen : List (Entry Q)

-- the chair of a seat with this view
abbrev pub chair_value : {Q : Type 0} → TableId → View Q → ChairValue Q
chair_value id view = record { board = record { id = id; limits = view.limits }; seen = view.seen }

-- the stands of all shards in the history that a view has seen
abbrev pub AreStandsOf : {Q : Type 0} → List Stand → View Q → Type 0
AreStandsOf stands view =
    (length stands ≡ view.limits.count)
    × ((shard : ℕ) → slice_index_or stands shard Vacant ≡ (record_in view.limits view.seen shard).stand)

-- the view of a chair that keeps these stands
abbrev pub IsChairView : {Q : Type 0} → List Stand → View Q → Type 0
IsChairView stands view =
    (view.stage ≡ Acting) × (view.number ≡ 0) × (view.held ≡ None) × AreStandsOf stands view × HasSeenLegal view

-- the shard's record in all that the chair has seen
abbrev pub record_at_chair : {Q : Type 0} → ChairValue Q → ℕ → Record
record_at_chair chair shard = record_in chair.board.limits chair.seen shard

-- the chair has seen more, made only by passes
abbrev pub ChairLooks : {Q : Type 0} → ChairValue Q → ChairValue Q → Type 0
ChairLooks before after = Grows before.board.limits 0 before.seen after.seen [] × (after.board ≡ before.board)

-- the chair has seen more, made by passes, and its own change last
abbrev pub ChairAdds : {Q : Type 0} → ChairValue Q → ℕ → Change → ChairValue Q → Type 0
ChairAdds before shard change after =
    Grows before.board.limits 0 before.seen after.seen (entry_of 0 shard (Changed change) ∷ [])
    × (after.board ≡ before.board)

-- why a record allows no change now
abbrev pub Forbids : ℕ → Record → ChangeRefusal → Type 0
Forbids ceiling state (Spent read) = (read ≡ state) × (state.generation ≡ ceiling)
Forbids ceiling state (Busy read) = (read ≡ state) × (state.admitted ≡ true)
Forbids ceiling state (Raced read found) = ⊥

-- why a change wasn't made, by the record that the chair has then seen; or it was overtaken, and the record read
-- allowed it
abbrev pub NotMade : {Q : Type 0} → ChairValue Q → ChairValue Q → ℕ → ChangeRefusal → Type 0
NotMade before after shard (Spent state) =
    (state ≡ record_at_chair after shard) × (state.generation ≡ before.board.limits.ceiling)
NotMade before after shard (Busy state) = (state ≡ record_at_chair after shard) × (state.admitted ≡ true)
NotMade before after shard (Raced read found) =
    (read.admitted ≡ false) × (read.generation < before.board.limits.ceiling)
    × Races before.board.limits before.seen after.seen shard read found
