-- The meaning of settings for the control: the rows of the books, the caps of restarts, and the greatest generation of
-- a record; and when other settings may come in their place.
use Rattle.std.specs.Prelude.{ℕ, Option, Some, None, ◌≡◌, false, List, length, map, slice_index_or}
use Rattle.std.specs.List.{range_with_len}
use Rattle.sm_rows.specs.declared.server_row.ServerRow.{ServerRow}
use Rattle.sm_rows.specs.declared.group_row.GroupRow.{GroupRow}
use Rattle.sm_rows.specs.declared.shard_row.ShardRow.{ShardRow}
use Rattle.sm_rows.specs.declared.domain_row.DomainRow.{DomainRow}
use Rattle.sm_place.specs.Books.{BooksView, IsKnown, new_books, no_shard}
use Rattle.sm_place.specs.ServerState.{is_unreached}
use Rattle.sm_place.specs.Sound.{AreSound}
use Rattle.sm_tasks.specs.Caps.{MeetsCaps, RestartCaps}
use Rattle.sm_store.specs.Store.{Placement, Transaction, placement_of, stored_settings}

-- the rows that the settings give
pub record SettingsRows : Type 0 where
  pub servers : List ServerRow
  pub groups : List GroupRow
  pub shards : List ShardRow
  pub domains : List DomainRow

-- the settings that a control goes by: the rows, the caps by which restarts are approved, and the greatest generation
-- of a record
pub record ControlSettings : Type 0 where
  pub rows : SettingsRows
  pub caps : RestartCaps
  pub ceiling : ℕ

-- the books of these rows before any command
abbrev pub first_books : SettingsRows → BooksView
first_books rows = new_books rows.servers rows.groups rows.shards rows.domains

-- the books of these rows, with each shard's stand by its record, and each server in its state
abbrev pub books_in : SettingsRows → Placement → BooksView
books_in rows placement =
    record {
      servers = rows.servers;
      groups = rows.groups;
      shards = map (λ k. record {
        row = slice_index_or rows.shards k no_shard.row;
        stand = (placement.records k).stand;
      }) (range_with_len 0 (length rows.shards));
      states = map (λ row. placement.states row.id) rows.servers;
      domains = rows.domains;
    }

-- records and states keep to the settings: each server that a shard names has a row, there is room, and the caps of
-- approved restarts are met
pub record SettingsHold (settings : ControlSettings) (placement : Placement) : Type 0 where
  pub sound : AreSound (books_in settings.rows placement)
  pub caps : MeetsCaps settings.caps (books_in settings.rows placement)

-- new settings may come in place of the old ones at these records and states: there are as many shards, with the same
-- ceiling, each server that has neither stopped nor failed has a row, and records and states keep to them; capacities,
-- domains, groups and caps may change
pub record MayReplace (placement : Placement) (old new : ControlSettings) : Type 0 where
  pub shards : length new.rows.shards ≡ length old.rows.shards
  pub ceiling : new.ceiling ≡ old.ceiling
  pub servers : (a : ℕ) → IsKnown old.rows.servers a → is_unreached (placement.states a) ≡ false
      → IsKnown new.rows.servers a
  pub kept : SettingsHold new placement

-- the settings that were written, as they are read, or none if none were
abbrev pub read_by : (List ℕ → Option ControlSettings) → Option (List ℕ) → Option ControlSettings
read_by reading None = None
read_by reading (Some settings) = reading settings

-- the settings in force: the last ones that were written
abbrev pub in_force : {Q P : Type 0} → (List ℕ → Option ControlSettings) → List (Transaction Q P)
    → Option ControlSettings
in_force reading log = read_by reading (stored_settings log)

-- everything on which a command rests: all records and states, and the settings in force
pub record Footing : Type 0 where
  pub placement : Placement
  pub settings : Option ControlSettings

-- everything on which a command rests, in a store
abbrev pub footing_of : {Q P : Type 0} → (List ℕ → Option ControlSettings) → List (Transaction Q P) → Footing
footing_of reading log = record { placement = placement_of log; settings = in_force reading log }
