-- The caps hold for the records and states in a store, because each command is one that the desk allows.
use Rattle.std.proofs.Common.{◌≡◌, ℕ, true, false, List, [], ◌∷◌, length, Option, Some, None, refl, sym, ap}
use Rattle.std.proofs.Common.{subst}
use Rattle.std.proofs.Common.{◌∙◌, arith}
use Rattle.std.specs.Prelude.{Bool, is_none, is_some}
use Rattle.std.proofs.lemmas.Bool.{false≢true}
use Rattle.std.proofs.lemmas.Option.{same_Some}
use Rattle.std.proofs.lemmas.List.{get_or-map, get_or-replicate, length-map}
use Rattle.sm_ownership.specs.History.{vacant}
use Rattle.sm_rows.specs.declared.domain_row.DomainRow.{DomainRow}
use Rattle.sm_rows.specs.declared.group_row.GroupRow.{GroupRow}
use Rattle.sm_rows.specs.declared.server_row.ServerRow.{ServerRow}
use Rattle.sm_rows.specs.declared.shard_row.ShardRow.{ShardRow}
use Rattle.sm_place.specs.declared.server_state.ServerState.{ServerState}
use Rattle.sm_place.specs.declared.server_state.ServerState.TheVariants as states
use Rattle.sm_place.specs.declared.shard.Shard.{Shard}
use Rattle.sm_place.specs.Books.{BooksView, IsKnown, new_books, no_shard, place_of, vacant_shard, with_state}
use Rattle.sm_place.specs.Sound.{AreSound}
use Rattle.sm_tasks.specs.Caps.{MeetsCaps, RestartCaps}
use Rattle.sm_desk.specs.declared.command.Command.{Command}
use Rattle.sm_desk.specs.declared.command.Command.TheVariants.{Change}
use Rattle.sm_desk.specs.Desk.{DeskView, books_commanded, commanded, desk_fault}
use Rattle.sm_desk.specs.lemmas.Changes.{let_through}
use Rattle.sm_store.specs.declared.item.Item.{Item}
use Rattle.sm_store.specs.Settings.{ControlSettings, SettingsHold, SettingsRows, books_in, first_books, in_force}
use Rattle.sm_store.specs.Settings.{read_by}
use Rattle.sm_store.specs.Store.{Placement, Transaction, placement_of, stored_settings}
use Rattle.sm_store.specs.Deeds.{AreRight, Deed, Electing, Expiring, Changing, Restarting, Settling, Executing}
use Rattle.sm_store.specs.Deeds.{Resettling}
use Rattle.sm_store.specs.Deeds.{Basing, Naming, Clearing, Following, Checking, Foreign, IsRight, transaction_of}
use Rattle.sm_lead.specs.Placements.{Agrees, AreKeptBy, SettingsReading, charter_of, desk_in, step_to}
use Rattle.sm_lead.proofs.Agreement.{agrees_changed, agrees_entered, agrees_in, rows_commanded, rows_in, same_books}
use Rattle.sm_lead.proofs.Knowing.{known_of, rows_first}

is_none_so : {A : Type 0} (a : Option A) → is_none a ≡ true → a ≡ None
is_none_so None is = refl
is_none_so (Some x) is = absurd cc

-- the step that leads to a state, and its books
stated : (books : BooksView) (a : ℕ) (state : ServerState) → books_commanded books (step_to state a)
    ≡ with_state books a state
stated books a states.Up = refl
stated books a states.Asked = refl
stated books a states.Approved = refl
stated books a states.Stopped = refl
stated books a states.Failed = refl

stated_known : (books : BooksView) (caps : RestartCaps) (a : ℕ) (state : ServerState)
    → desk_fault (record { books = books; caps = caps }) (step_to state a) ≡ None → IsKnown books.servers a
stated_known books caps a states.Up none = known_of books a _ none
stated_known books caps a states.Asked none = known_of books a _ none
stated_known books caps a states.Approved none = known_of books a _ none
stated_known books caps a states.Stopped none = known_of books a _ none
stated_known books caps a states.Failed none = known_of books a _ none

module _ (rows : SettingsRows) (caps : RestartCaps)
    (keep_caps : (desk : DeskView) (command : Command) → AreSound desk.books → MeetsCaps desk.caps desk.books
    → desk_fault desk command ≡ None → MeetsCaps desk.caps (books_commanded desk.books command))
    (keep_sound : (desk : DeskView) (command : Command) → AreSound desk.books → desk_fault desk command ≡ None
    → AreSound (commanded desk command).books) where
  -- the books of the records and states are sound, and meet the caps
  abbrev pub Keeps : Placement → Type 0
  Keeps placement = AreSound (books_in rows placement) × MeetsCaps caps (books_in rows placement)

  step : (before after : Placement) (command : Command) → Keeps before
      → desk_fault (record { books = books_in rows before; caps = caps }) command ≡ None
      → Agrees (books_commanded (books_in rows before) command) after → Keeps after
  step before after command keeps none agrees =
      let desk : DeskView = record { books = books_in rows before; caps = caps } in
      let new = books_commanded (books_in rows before) command in
      let sound : AreSound new = keep_sound desk command keeps.0 none in
      let kept : MeetsCaps caps new = keep_caps desk command keeps.0 keeps.1 none in
      let is : new ≡ books_in rows after =
      same_books new after sound agrees
      ∙ ap (λ (r : SettingsRows). books_in r after)
      (rows_commanded (books_in rows before) command ∙ rows_in rows before) in
      (subst AreSound is sound, subst (MeetsCaps caps) is kept)

-- nothing was written
abbrev pub unplaced : Placement
unplaced = record { records = λ shard. vacant; states = λ server. states.Up; processes = λ server. 0 }

-- new books are those of an empty store
pub new_is : (rows : SettingsRows) → AreSound (first_books rows) → first_books rows ≡ books_in rows unplaced
new_is rows sound =
    same_books (first_books rows) unplaced sound (record {
      stands = λ k below.
          let many = length-map rows.shards vacant_shard in
          ap (λ (shard : Shard). shard.stand)
          (get_or-map vacant_shard rows.shards k no_shard.row no_shard (omega arith));
      states = λ a known. get_or-replicate (length rows.servers) (place_of rows.servers a) states.Up states.Up known;
    })
    ∙ ap (λ (r : SettingsRows). books_in r unplaced) (rows_first rows)

none_some : {A : Type 0} (found : Option A) (x : A) → found ≡ None → found ≡ Some x → false ≡ true
none_some found x none some = sym (ap is_some none) ∙ ap is_some some

-- settings in force were written
unread : (reading : SettingsReading) (written : Option (List ℕ)) (settings : ControlSettings) → written ≡ None
    → read_by reading.settings written ≡ Some settings → false ≡ true
unread reading written settings none is =
    none_some (read_by reading.settings written) settings (ap (read_by reading.settings) none) is

module _ (reading : SettingsReading)
    (keep_caps : (desk : DeskView) (command : Command) → AreSound desk.books → MeetsCaps desk.caps desk.books
    → desk_fault desk command ≡ None → MeetsCaps desk.caps (books_commanded desk.books command))
    (keep_sound : (desk : DeskView) (command : Command) → AreSound desk.books → desk_fault desk command ≡ None
    → AreSound (commanded desk command).books)
    (start_caps : (caps : RestartCaps) (servers : List ServerRow) (groups : List GroupRow) (shards : List ShardRow)
    (domains : List DomainRow) → MeetsCaps caps (new_books servers groups shards domains)) where
  -- before any command records and states keep to any settings that are read
  kept_first : (written : List ℕ) (settings : ControlSettings) → reading.settings written ≡ Some settings
      → SettingsHold settings unplaced
  kept_first written settings is =
      let rows = settings.rows in
      let sound = reading.sound written settings is in
      let same = new_is rows sound in
      record {
        sound = subst AreSound same sound;
        caps = subst (MeetsCaps settings.caps) same
            (start_caps settings.caps rows.servers rows.groups rows.shards rows.domains);
      }

  kept_on : (settings : ControlSettings) (before after : Placement) (command : Command) → SettingsHold settings before
      → desk_fault (desk_in settings before) command ≡ None
      → Agrees (books_commanded (books_in settings.rows before) command) after → SettingsHold settings after
  kept_on settings before after command kept none agrees =
      let on = step settings.rows settings.caps keep_caps keep_sound before after command (kept.sound, kept.caps) none
      agrees in
      record { sound = on.0; caps = on.1 }

  module _ {Q P : Type 0} (waits : Bool) (parts : List (Item Q) → List P) where
    -- nothing was written before the first settings, and records and states keep to those in force
    record IsKeptLog (log : List (Transaction Q P)) : Type 0 where
      pub empty : stored_settings log ≡ None → placement_of log ≡ unplaced
      pub kept : AreKeptBy reading log

    -- a command by settings in force keeps to them
    kept_then : (log : List (Transaction Q P)) (by settings : ControlSettings) → IsKeptLog log
        → in_force reading.settings log ≡ Some by → in_force reading.settings log ≡ Some settings
        → (by ≡ settings) × SettingsHold settings (placement_of log)
    kept_then log by settings keeps one is = (same_Some by settings (sym one ∙ is), keeps.kept settings is)

    deed_step : (log : List (Transaction Q P)) (deed : Deed Q P)
        → IsRight (charter_of reading waits parts) log deed → IsKeptLog log
        → IsKeptLog (transaction_of deed ∷ log)
    deed_step log (Electing process) right keeps = record { empty = keeps.empty; kept = keeps.kept }
    deed_step log (Expiring keys) right keeps = record { empty = keeps.empty; kept = keeps.kept }
    deed_step log (Changing process k change next elected placed) right keeps = record {
      empty = λ none. absurd (false≢true (unread reading (stored_settings log) right.settings none right.settings_are));
      kept = λ settings is.
          let then = kept_then log right.settings settings keeps right.settings_are is in
          let none : desk_fault (desk_in settings (placement_of log)) (Change k change) ≡ None =
          subst (λ (s : ControlSettings). desk_fault (desk_in s (placement_of log)) (Change k change) ≡ None) then.0
          (is_none_so _ right.allowed) in
          let books = books_in settings.rows (placement_of log) in
          kept_on settings (placement_of log) (placement_of (transaction_of {Q = Q} {P = P}
          (Changing process k change next elected placed) ∷ log)) (Change k change) then.1 none
          (agrees_changed books log process k change next elected placed (let_through books k change none).within
          right.changed.is (agrees_in settings.rows (placement_of log)));
    }
    deed_step log (Restarting process a run elected placed) right keeps = record {
      empty = λ none. absurd (false≢true (unread reading (stored_settings log) right.settings none right.settings_are));
      kept = λ settings is.
          let then = kept_then log right.settings settings keeps right.settings_are is in
          let none : desk_fault (desk_in settings (placement_of log)) (step_to run.state a) ≡ None =
          subst (λ (s : ControlSettings). desk_fault (desk_in s (placement_of log)) (step_to run.state a) ≡ None) then.0
          (is_none_so _ right.allowed) in
          let books = books_in settings.rows (placement_of log) in
          let after = placement_of (transaction_of {Q = Q} {P = P} (Restarting process a run elected placed) ∷ log) in
          kept_on settings (placement_of log) after (step_to run.state a) then.1 none
          (subst (λ (b : BooksView). Agrees b after) (sym (stated books a run.state))
          (agrees_entered books log process a run elected placed then.1.sound.states
          (stated_known books settings.caps a run.state none) (agrees_in settings.rows (placement_of log))));
    }
    deed_step log (Settling written) right keeps = record {
      empty = λ none. absurd cc;
      kept = λ settings is.
          subst (SettingsHold settings) (sym (keeps.empty right)) (kept_first written settings is);
    }
    deed_step log (Resettling process written elected placed) right keeps = record {
      empty = λ none. absurd cc;
      kept = λ settings is.
          subst (λ (s : ControlSettings). SettingsHold s (placement_of log))
          (same_Some right.new settings (sym right.new_are ∙ is)) right.replaces.kept;
    }
    deed_step log (Executing shard server items head stood logged) right keeps =
        record { empty = keeps.empty; kept = keeps.kept }
    deed_step log (Basing shard number place part) right keeps = record { empty = keeps.empty; kept = keeps.kept }
    deed_step log (Naming shard head number count logged) right keeps =
        record { empty = keeps.empty; kept = keeps.kept }
    deed_step log (Clearing keys) right keeps = record { empty = keeps.empty; kept = keeps.kept }
    deed_step log (Following server revision acks told) right keeps =
        record { empty = keeps.empty; kept = keeps.kept }
    deed_step log (Checking compares) right keeps = record { empty = keeps.empty; kept = keeps.kept }
    deed_step log Foreign right keeps = record { empty = keeps.empty; kept = keeps.kept }

    kept_all : (log : List (Transaction Q P)) → AreRight (charter_of reading waits parts) log → IsKeptLog log
    kept_all [] right = record { empty = λ none. refl; kept = λ settings is. absurd cc }
    kept_all (txn ∷ earlier) right =
        let on = deed_step earlier right.0.deed right.0.right (kept_all earlier right.1) in
        subst (λ (t : Transaction Q P). IsKeptLog (t ∷ earlier)) (sym right.0.is)
        (record { empty = on.empty; kept = on.kept })

    pub keeps_all : (log : List (Transaction Q P)) → AreRight (charter_of reading waits parts) log
        → AreKeptBy reading log
    keeps_all log right = (kept_all log right).kept
