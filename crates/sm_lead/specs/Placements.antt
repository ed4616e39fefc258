-- The control's rule over a shared store: its books are the settings' rows, with the records and states of the store.
use Rattle.std.specs.Prelude.{ℕ, Bool, ◌≡◌, ◌<◌, is_none, List, length, map, Option, Some}
use Rattle.sm_place.specs.declared.server_state.ServerState.{ServerState}
use Rattle.sm_place.specs.declared.server_state.ServerState.TheVariants as states
use Rattle.sm_place.specs.Books.{BooksView, IsKnown, shard_at, state_of}
use Rattle.sm_place.specs.Sound.{AreSound}
use Rattle.sm_desk.specs.declared.command.Command.{Command}
use Rattle.sm_desk.specs.declared.command.Command.TheVariants.{Change, Ask, Approve, Stopped, Back, Fail}
use Rattle.sm_desk.specs.Desk.{DeskView, desk_fault}
use Rattle.sm_store.specs.declared.item.Item.{Item}
use Rattle.sm_store.specs.Store.{Placement, Transaction, placement_of}
use Rattle.sm_store.specs.Settings.{SettingsHold, ControlSettings, SettingsRows, books_in, first_books, in_force}
use Rattle.sm_store.specs.Deeds.{Charter}

-- the rows of the books
abbrev pub rows_of : BooksView → SettingsRows
rows_of books =
    record {
      servers = books.servers;
      groups = books.groups;
      shards = map (λ shard. shard.row) books.shards;
      domains = books.domains;
    }

-- the desk has the rows of the other one, and approves as it
pub record HasRowsOf (old new : DeskView) : Type 0 where
  pub rows : rows_of new.books ≡ rows_of old.books
  pub caps : new.caps ≡ old.caps

-- each shard of the books has the stand in its record, and each server is in its state
pub record Agrees (books : BooksView) (placement : Placement) : Type 0 where
  pub stands : (k : ℕ) → k < length books.shards → (shard_at books.shards k).stand ≡ (placement.records k).stand
  pub states : (a : ℕ) → IsKnown books.servers a → state_of books a ≡ placement.states a

-- the step of a restart that leads to the state
abbrev pub step_to : ServerState → ℕ → Command
step_to states.Up server = Back server
step_to states.Asked server = Ask server
step_to states.Approved server = Approve server
step_to states.Stopped server = Stopped server
step_to states.Failed server = Fail server

-- the desk of these settings, records and states
abbrev pub desk_in : ControlSettings → Placement → DeskView
desk_in settings placement = record { books = books_in settings.rows placement; caps = settings.caps }

-- the result of reading settings: all that are read have as many shards and the same ceiling, and their rows make sound
-- books
pub record SettingsReading : Type 0 where
  pub count : ℕ
  pub ceiling : ℕ
  pub settings : List ℕ → Option ControlSettings
  pub counted : (written : List ℕ) (given : ControlSettings) → settings written ≡ Some given
      → length given.rows.shards ≡ count
  pub within : (written : List ℕ) (given : ControlSettings) → settings written ≡ Some given → given.ceiling ≡ ceiling
  pub sound : (written : List ℕ) (given : ControlSettings) → settings written ≡ Some given
      → AreSound (first_books given.rows)

-- the charter of a store whose settings are read so: a command is allowed that the desk of the settings in force
-- refuses by no fault
abbrev pub charter_of : {Q P : Type 0} → SettingsReading → Bool → (List (Item Q) → List P) → Charter Q P
charter_of reading waits parts =
    record {
      count = reading.count;
      ceiling = reading.ceiling;
      settings = reading.settings;
      allows_change = λ settings placement shard change. is_none (desk_fault (desk_in settings placement)
          (Change shard change));
      allows_state = λ settings placement server state. is_none (desk_fault (desk_in settings placement)
          (step_to state server));
      waits = waits;
      parts = parts;
    }

-- records and states keep to the settings in force
abbrev pub AreKeptBy : {Q P : Type 0} → SettingsReading → List (Transaction Q P) → Type 0
AreKeptBy reading log =
    (settings : ControlSettings) → in_force reading.settings log ≡ Some settings
    → SettingsHold settings (placement_of log)
