-- The knowledge of a control about the store: once it has read, and once its command was made; and the commands that it
-- may send.
use Rattle.std.proofs.Common.{◌≡◌, ◌≢◌, ℕ, zero, suc, ◌<◌, Bool, true, false, List, [], ◌∷◌, ◌++◌, length, get_or, set}
use Rattle.std.proofs.Common.{Option, Some, None, map, refl, sym, ap, subst, ◌∙◌, inl, ⊎_elim, arith}
use Rattle.std.specs.Prelude.{IsTrue, IfSome, find, is_none, is_some, not, unwrap_or, ◌≤◌, ◌==◌, ◌&&◌, ◌||◌, ◌↔◌}
use Rattle.std.specs.Prelude.{if◌then◌else◌}
use Rattle.std.specs.Option.{option_map, option_or}
use Rattle.std.specs.List.{AllByRecursion}
use Rattle.std.proofs.lemmas.Bool.{cases_eq, eq-eqb, ne_eqb, ltb-true, cond-true, cond-false}
use Rattle.std.proofs.lemmas.Bool.{and_parts, cases_lt, cond_both, eqb-true, false≢true}
use Rattle.std.proofs.lemmas.List.{get_or_past, get_or-set_same, get_or-set_other, length-map, length-set}
use Rattle.sm_ranges.specs.declared.stand.Stand.TheVariants.{Paused}
use Rattle.sm_ownership.specs.declared.change.Change.{Change as AnyChange}
use Rattle.sm_ownership.specs.declared.record.Record.{Record}
use Rattle.sm_ownership.specs.History.{after_change, change_fits}
use Rattle.sm_ownership.specs.Rules.{phase_fault}
use Rattle.sm_ownership.specs.Tables.{record_fault}
use Rattle.sm_place.specs.declared.server_state.ServerState.{ServerState}
use Rattle.sm_rows.specs.declared.server_row.ServerRow.{ServerRow}
use Rattle.sm_rows.specs.declared.shard_row.ShardRow.{ShardRow}
use Rattle.sm_place.specs.declared.shard.Shard.{Shard}
use Rattle.sm_place.specs.declared.server_state.ServerState.TheVariants as states
use Rattle.sm_place.specs.Books.{BooksView, IsKnown, no_server, place_of, state_of, vacant_shard, with_state}
use Rattle.sm_place.specs.ServerState.{is_failed, is_stopped}
use Rattle.sm_place.specs.Sound.{AreSound}
use Rattle.sm_place.specs.lemmas.Changed.{id-at_place, length-with_stand}
use Rattle.sm_desk.specs.declared.command.Command.{Command}
use Rattle.sm_desk.specs.declared.command.Command.TheVariants.{Change, Ask, Approve, Stopped, Back, Fail}
use Rattle.sm_desk.specs.declared.command.CommandFault.{CommandFault}
use Rattle.sm_desk.specs.declared.command.CommandFault.TheVariants.{Change as ChangeRefused, UnknownServer}
use Rattle.sm_desk.specs.Desk.{DeskView, commanded, desk_fault, is_known}
use Rattle.sm_desk.specs.lemmas.Changes.{let_through}
use Rattle.sm_store.specs.declared.compare.Compare.{Compare}
use Rattle.sm_store.specs.declared.item.Item.{Item}
use Rattle.sm_store.specs.declared.server_run.ServerRun.{ServerRun}
use Rattle.sm_store.specs.Store.{Placement, Transaction, all_hold, leader_key, placement_key, placement_of, record_key}
use Rattle.sm_store.specs.Store.{IsRising, revision_of, stored_record, stored_run}
use Rattle.sm_store.specs.lemmas.Footing.{footing_then}
use Rattle.sm_store.specs.Deeds.{HasFooting}
use Rattle.sm_store.specs.Deeds.{AreRight, Changing, Charter, Deed, HasLed, IsChanged, MaySend, Restarting}
use Rattle.sm_store.specs.Deeds.{WasFound, absence_compares, at, done_at, is_next_run, read_run, transaction_of}
use Rattle.sm_store.specs.Settings.{ControlSettings, Footing, SettingsRows, first_books}
use Rattle.sm_store.specs.Settings.{read_by}
use Rattle.sm_store.specs.Store.{acked_of, server_key, stored_settings, touches}
use Rattle.sm_store.specs.Waits.{HasLetGo, HaveLetGo, gives_up, has_let_go}
use Rattle.sm_store.specs.lemmas.Acks.{let_go_as_read}
use Rattle.sm_store.specs.lemmas.Heart.{first_held, stood_among}
use Rattle.sm_store.specs.lemmas.Views.{IsOfDeed, deeds_of_right, placement_view, rising_of_right}
use Rattle.sm_lead.specs.declared.command_write.CommandWrite.TheVariants.{State as WritesState}
use Rattle.sm_lead.specs.declared.ack_read.AckRead.{AckRead}
use Rattle.sm_lead.specs.declared.leadership.Leadership.{Leadership}
use Rattle.sm_lead.specs.declared.record_read.RecordRead.{RecordRead}
use Rattle.sm_lead.specs.declared.store_control.StoreControl.{StoreControl}
use Rattle.sm_lead.specs.Commands.{IsAfter, command_fault, may_name, process_at, read_at, run_at, run_into, unentered}
use Rattle.sm_lead.specs.Commands.{unwritten, write_of}
use Rattle.sm_lead.specs.Controls.{CommandWasMade, GoesByStore, IsLoaded, IsReadBy, IsReadOf, KnowsStore}
use Rattle.sm_lead.specs.Controls.{written_desk, settings_held}
use Rattle.sm_lead.specs.Placements.{Agrees, SettingsReading, charter_of, desk_in, rows_of}
use Rattle.sm_lead.specs.Sendings.{command_transaction, sending_of}
use Rattle.sm_lead.specs.Waits.{AreAcksMade, acked_in, has_waited, holds_of_named, is_paused_for, let_paused_go}
use Rattle.sm_lead.specs.Waits.{lets_go, lets_paused_go, may_stop}
use Rattle.sm_lead.proofs.Agreement.{agrees_changed, agrees_entered, processes_entered, rows_commanded, same_books}

pub none_both : {A : Type 0} (a b : Option A) → option_or a b ≡ None → (a ≡ None) × (b ≡ None)
none_both None b is = (refl, is)
none_both (Some x) b is = absurd cc

unmapped : {A B : Type 0} (f : A → B) (a : Option A) → option_map f a ≡ None → a ≡ None
unmapped f None is = refl
unmapped f (Some x) is = absurd cc

if_known : {A : Type 0} (b : Bool) (a : Option A) (x : A) → (if b then a else Some x) ≡ None → b ≡ true
if_known true a x is = refl
if_known false a x is = absurd cc

-- a control that waits has read that the server let go
must_have_read : (waits read : Bool) → waits ≡ true → (not waits || read) ≡ true → read ≡ true
must_have_read true read is so = so
must_have_read false read is so = absurd (false≢true is)

pub none_is : {A : Type 0} (a : Option A) → a ≡ None → is_none a ≡ true
none_is None is = refl
none_is (Some x) is = absurd cc

-- a step that isn't refused is of a server with a row
pub known_of : (books : BooksView) (a : ℕ) (fault : Option CommandFault)
    → (if is_known books.servers a then fault else Some UnknownServer) ≡ None → IsKnown books.servers a
known_of books a fault none =
    ltb-true (place_of books.servers a) (length books.servers)
    (if_known (is_known books.servers a) fault UnknownServer none)

rows_vacant : (rows : List ShardRow) → map (λ (shard : Shard). shard.row) (map vacant_shard rows) ≡ rows
rows_vacant [] = refl
rows_vacant (row ∷ rows) = ap (λ (rest : List ShardRow). row ∷ rest) (rows_vacant rows)

-- the rows of the books before any command
pub rows_first : (rows : SettingsRows) → rows_of (first_books rows) ≡ rows
rows_first rows = ap (λ (shards : List ShardRow). record rows { shards = shards }) (rows_vacant rows.shards)

-- a control made from settings has them
pub held_settings : (settings : ControlSettings) (lead : Leadership) (waits : Bool) (reads : List RecordRead)
    (runs : List ServerRun) (placed : ℕ) (control : StoreControl)
    → IsLoaded (written_desk settings) lead settings.ceiling waits reads runs placed control
    → settings_held control ≡ settings
held_settings settings lead waits reads runs placed control loaded =
    let rows = loaded.rows.rows ∙ rows_first settings.rows in
    λ i. record { rows = rows i; caps = loaded.rows.caps i; ceiling = loaded.ceiling_is i }

held_after : (control new : StoreControl) (command : Command) → new.desk ≡ commanded control.desk command
    → new.ceiling ≡ control.ceiling → settings_held new ≡ settings_held control
held_after control new command desk ceiling =
    let rows = ap (λ (d : DeskView). rows_of d.books) desk ∙ rows_commanded control.desk.books command in
    let caps = ap (λ (d : DeskView). d.caps) desk in
    λ i. record { rows = rows i; caps = caps i; ceiling = ceiling i }

module _ {Q P : Type 0} where
  pub reading_known : (log : List (Transaction Q P)) (desk : DeskView) (lead : Leadership) (ceiling : ℕ)
      (waits : Bool) (reads : List RecordRead) (runs : List ServerRun) (placed : ℕ) (control : StoreControl)
      → AreSound control.desk.books → IsLoaded desk lead ceiling waits reads runs placed control
      → IsReadOf log desk lead reads runs placed → KnowsStore log control
  reading_known log desk lead ceiling waits reads runs placed control sound loaded read =
      let books = control.desk.books in
      let count = loaded.stands.count in
      let long = sound.states in
      let servers : books.servers ≡ desk.books.servers = ap (λ rows. rows.servers) loaded.rows.rows in
      let many = loaded.states_are.count in
      let own : (a : ℕ) → IsKnown books.servers a
      → get_or runs (place_of books.servers a) unentered ≡ stored_run a read.past = λ a known.
      let place = place_of books.servers a in
      read.runs_were place (omega arith)
      ∙ ap (λ (id : ℕ). stored_run id read.past)
      (ap (λ rows. (get_or rows place no_server).id) (sym servers) ∙ id-at_place books.servers a known) in
      record {
        led = subst (λ (l : Leadership). HasLed log l.process l.elected) (sym loaded.lead_is) read.led;
        read = placement_of read.past;
        placement_was = record {
          later = read.later;
          past = read.past;
          is = read.is;
          at = read.at ∙ sym loaded.placed_is;
          was = refl;
        };
        agrees = record {
          stands = λ k below. loaded.stands.stands k (omega arith)
              ∙ ap (λ (r : Record). r.stand) (read.records k (omega arith));
          states = λ a known.
              loaded.states_are.each (place_of books.servers a) (omega arith)
              ∙ ap (λ (run : ServerRun). run.state) (own a known);
        };
        records = λ k below.
            ap (λ (rs : List RecordRead). (read_at rs k).state) loaded.reads_are ∙ read.records k (omega arith);
        stood = λ k below.
            subst (λ (rs : List RecordRead). WasFound (stored_record k) (record_key k) log (read_at rs k).state
            (read_at rs k).stood) (sym loaded.reads_are)
            (record {
              later = read.later;
              past = read.past;
              is = read.is;
              at = sym (read.stood k (omega arith));
              was = sym (read.records k (omega arith));
            });
        count = ap length loaded.reads_are ∙ count;
        processes = λ a known.
            ap (λ (all : List ServerRun). (get_or all (place_of books.servers a) unentered).process) loaded.runs_are
            ∙ ap (λ (run : ServerRun). run.process) (own a known);
        run_count = ap length loaded.runs_are ∙ many ∙ long;
      }

-- settings in force have as many shards as all that are read, and the same ceiling
pub read_within : (reading : SettingsReading) (written : Option (List ℕ)) (settings : ControlSettings)
    → read_by reading.settings written ≡ Some settings
    → (length settings.rows.shards ≡ reading.count) × (settings.ceiling ≡ reading.ceiling)
read_within reading (Some line) settings is = (reading.counted line settings is, reading.within line settings is)
read_within reading None settings is = absurd (false≢true (ap is_some is))

module _ {Q P : Type 0} (reading : SettingsReading) (parts : List (Item Q) → List P) (log : List (Transaction Q P))
    (control : StoreControl) (sound : AreSound control.desk.books) (by : GoesByStore reading.settings log control) where
  abbrev knows : KnowsStore log control
  knows = by.knows

  within_reading : (length (rows_of control.desk.books).shards ≡ reading.count) × (control.ceiling ≡ reading.ceiling)
  within_reading =
      read_within reading (stored_settings by.footing.past) (settings_held control)
      (ap (λ (f : Footing). f.settings) by.footing.was)

  same_desk : control.desk ≡ desk_in (settings_held control) knows.read
  same_desk =
      ap (λ (books : BooksView). record { books = books; caps = control.desk.caps })
      (same_books control.desk.books knows.read sound knows.agrees)

  allowed : (command : Command) → desk_fault control.desk command ≡ None
      → is_none (desk_fault (desk_in (settings_held control) knows.read) command) ≡ true
  allowed command none =
      subst (λ (desk : DeskView). is_none (desk_fault desk command) ≡ true) same_desk (none_is _ none)

  -- the state of the server, in the control and in its readings
  run_is : (a : ℕ) → IsKnown control.desk.books.servers a → run_at control a ≡ read_run knows.read a
  run_is a known =
      ap (λ (state : ServerState). record { state = state; process = process_at control a })
      (knows.agrees.states a known)
      ∙ ap (λ (process : ℕ). record { state = knows.read.states a; process = process }) (knows.processes a known)

  restart_may : (a : ℕ) (run : ServerRun) → IsKnown control.desk.books.servers a
      → is_none (desk_fault (desk_in (settings_held control) knows.read)
      (Rattle.sm_lead.specs.Placements.step_to run.state a)) ≡ true
      → is_next_run (run_at control a) run ≡ true
      → (IsTrue control.waits → run.state ≡ states.Stopped
      → HaveLetGo log knows.read reading.count a)
      → MaySend (charter_of reading control.waits parts) log
      (command_transaction (sending_of control (WritesState a run)))
  restart_may a run known allows next waited = record {
    deed = Restarting control.lead.process a run control.lead.elected control.placed;
    is = refl;
    may = record {
      led = knows.led;
      read = knows.read;
      settings = settings_held control;
      footing = by.footing;
      allowed = allows;
      next = subst (λ (before : ServerRun). is_next_run before run ≡ true) (run_is a known) next;
      waited = waited;
    };
  }

  -- an ack that was found among those that were read was made
  found_made : (acks : List AckRead) → AreAcksMade log acks → (k server : ℕ)
      → acked_in acks k server ≤ acked_of k server log
  found_made [] made k server = omega arith
  found_made (ack ∷ acks) made k server =
      let rest = found_made acks made.1 k server in
      let found = find (λ (one : AckRead). one.shard == k && one.server == server) acks in
      cond_both (ack.shard == k && ack.server == server) (Some ack) found
      (λ (one : Option AckRead). unwrap_or (option_map (λ (a : AckRead). a.generation) one) 0 ≤ acked_of k server log)
      (λ same.
      let parts = and_parts (ack.shard == k) (ack.server == server) same in
      subst (λ (n : ℕ). ack.generation ≤ acked_of k n log) (eqb-true ack.server server parts.1)
      (subst (λ (n : ℕ). ack.generation ≤ acked_of n ack.server log) (eqb-true ack.shard k parts.0) made.0))
      (λ apart. rest)

  failed_is : (state : ServerState) → is_failed state ≡ true → state ≡ states.Failed
  failed_is states.Failed is = refl
  failed_is states.Up is = absurd (false≢true is)
  failed_is states.Asked is = absurd (false≢true is)
  failed_is states.Approved is = absurd (false≢true is)
  failed_is states.Stopped is = absurd (false≢true is)

  -- a server that the desk says has failed has a row, and has failed in the store
  failed_there : (server : ℕ) → is_failed (state_of control.desk.books server) ≡ true
      → knows.read.states server ≡ states.Failed
  failed_there server is =
      let books = control.desk.books in
      let place = place_of books.servers server in
      let long = sound.states in
      ⊎_elim
      (λ (known : place < length books.servers).
      sym (knows.agrees.states server known) ∙ failed_is (state_of books server) is)
      (λ (past : length books.servers ≤ place).
      absurd (false≢true (sym (ap is_failed (get_or_past books.states place states.Up (omega arith))) ∙ is)))
      (cases_lt place (length books.servers))

  one_let_go : (acks : List AckRead) → AreAcksMade log acks → (k server : ℕ) → k < length control.desk.books.shards
      → IsTrue control.waits → lets_go control acks k server ≡ true → HasLetGo log knows.read k server
  one_let_go acks were_made k server within waits is =
      let_go_as_read log knows.read k server (acked_in acks k server) (is_failed (state_of control.desk.books server))
      (found_made acks were_made k server) (failed_there server)
      (subst (λ (r : Record). has_let_go r (acked_in acks k server) (is_failed (state_of control.desk.books server))
      ≡ true) (knows.records k within) (must_have_read control.waits _ waits is))

  all_let_go : (acks : List AckRead) → AreAcksMade log acks → (k : ℕ) → k < length control.desk.books.shards
      → IsTrue control.waits → (found : Option ℕ) → holds_of_named (lets_go control acks k) found ≡ true
      → IfSome found (HasLetGo log knows.read k)
  all_let_go acks were_made k within waits None is = tt
  all_let_go acks were_made k within waits (Some server) is = one_let_go acks were_made k server within waits is

  -- the server has acked the shards that are paused for it, as far as was read
  paused_let_go : (acks : List AckRead) → AreAcksMade log acks → IsTrue control.waits → (server number k : ℕ)
      → let_paused_go control acks server number ≡ true → k < number → k < length control.desk.books.shards
      → (knows.read.records k).stand ≡ Paused server → HasLetGo log knows.read k server
  paused_let_go acks were_made waits server (suc number) k is below within paused =
      let state = (read_at control.records.items k).state in
      let parts = and_parts (let_paused_go control acks server number) (lets_paused_go control acks server number) is in
      ⊎_elim
      (λ (same : k ≡ number).
      let stands : state.stand ≡ Paused server = ap (λ (r : Record). r.stand) (knows.records k within) ∙ paused in
      let one : lets_paused_go control acks server k ≡ true =
      subst (λ (n : ℕ). lets_paused_go control acks server n ≡ true) (sym same) parts.1 in
      let is_so : is_paused_for server state.stand ≡ true =
      ap (is_paused_for server) stands ∙ eq-eqb server server refl in
      one_let_go acks were_made k server within waits (must_have_read _ _ is_so one))
      (λ (apart : k ≢ number). paused_let_go acks were_made waits server number k parts.0 (omega arith) within paused)
      (cases_eq k number)
  paused_let_go acks were_made waits server zero k is below within paused = absurd (omega arith)

  have_let_go : (acks : List AckRead) → AreAcksMade log acks → (server : ℕ) → may_stop control acks server ≡ true
      → IsTrue control.waits → HaveLetGo log knows.read reading.count server
  have_let_go acks were_made server may waits = λ k below paused.
      let rows_len = length-map control.desk.books.shards (λ shard. shard.row) in
      let count = knows.count in
      let all = within_reading.0 in
      paused_let_go acks were_made waits server (length control.records.items) k may (omega arith) (omega arith) paused

  pub may_be_sent : ((ceiling : ℕ) (state : Record) (change : AnyChange)
      → IsTrue (change_fits ceiling state 0 change)
      ↔ ((phase_fault state.stand change ≡ None) × (record_fault ceiling state ≡ None)))
      → (acks : List AckRead) → AreAcksMade log acks → (process : ℕ) (command : Command)
      → command_fault control command ≡ None → has_waited control acks command ≡ true
      → may_name control (write_of control process command) ≡ true
      → MaySend (charter_of reading control.waits parts) log
      (command_transaction (sending_of control (write_of control process command)))
  may_be_sent exactly acks were_made process (Change k change) none waited named =
      let both = none_both _ _ none in
      let state = (read_at control.records.items k).state in
      let within = (let_through control.desk.books k change both.0).within in
      let rows_len = length-map control.desk.books.shards (λ shard. shard.row) in
      let faults = none_both _ _ (unmapped ChangeRefused _ both.1) in
      let all = within_reading.0 in
      let fits : IsTrue (change_fits control.ceiling state 0 change) =
      (exactly control.ceiling state change).1 faults in
      record {
        deed = Changing control.lead.process k change (after_change state change) control.lead.elected control.placed;
        is = refl;
        may = record {
          within = omega arith;
          led = knows.led;
          read = knows.read;
          settings = settings_held control;
          footing = by.footing;
          allowed = allowed (Change k change) both.0;
          changed = subst (λ (n : ℕ). IsChanged n (knows.read.records k) change (after_change state change))
              within_reading.1
              (subst (λ (r : Record). IsChanged control.ceiling r change (after_change state change))
              (knows.records k within) (record { fits = fits; is = refl }));
          waited = λ waits.
              subst (λ (r : Record). IfSome (gives_up r.stand change) (HasLetGo log knows.read k))
              (knows.records k within)
              (all_let_go acks were_made k within waits (gives_up state.stand change) waited);
        };
      }
  may_be_sent exactly acks were_made process (Ask a) none waited named =
      restart_may a (run_into control process a states.Asked)
      (known_of control.desk.books a _ (none_both _ _ none).0)
      (allowed (Ask a) (none_both _ _ none).0) named (λ waits stops. absurd (false≢true (ap is_stopped stops)))
  may_be_sent exactly acks were_made process (Approve a) none waited named =
      restart_may a (run_into control process a states.Approved)
      (known_of control.desk.books a _ (none_both _ _ none).0)
      (allowed (Approve a) (none_both _ _ none).0) named (λ waits stops. absurd (false≢true (ap is_stopped stops)))
  may_be_sent exactly acks were_made process (Stopped a) none waited named =
      restart_may a (run_into control process a states.Stopped)
      (known_of control.desk.books a _ (none_both _ _ none).0)
      (allowed (Stopped a) (none_both _ _ none).0) named (λ waits stops. have_let_go acks were_made a waited waits)
  may_be_sent exactly acks were_made process (Back a) none waited named =
      restart_may a (run_into control process a states.Up)
      (known_of control.desk.books a _ (none_both _ _ none).0)
      (allowed (Back a) (none_both _ _ none).0) named (λ waits stops. absurd (false≢true (ap is_stopped stops)))
  may_be_sent exactly acks were_made process (Fail a) none waited named =
      restart_may a (run_into control process a states.Failed)
      (known_of control.desk.books a _ (none_both _ _ none).0)
      (allowed (Fail a) (none_both _ _ none).0) named (λ waits stops. absurd (false≢true (ap is_stopped stops)))

module _ {Q P : Type 0} where
  -- a control made from settings in force uses them
  pub reading_goes_by : (reading : List ℕ → Option ControlSettings) (log : List (Transaction Q P))
      (settings : ControlSettings) (lead : Leadership) (waits : Bool) (reads : List RecordRead)
      (runs : List ServerRun) (placed : ℕ) (control : StoreControl) → AreSound control.desk.books
      → IsLoaded (written_desk settings) lead settings.ceiling waits reads runs placed control
      → IsReadBy reading log settings lead reads runs placed → GoesByStore reading log control
  unfolding reading_known
  reading_goes_by reading log settings lead waits reads runs placed control sound loaded read =
      let one = read.read in
      let held = held_settings settings lead waits reads runs placed control loaded in
      record {
        knows = reading_known log (written_desk settings) lead settings.ceiling waits reads runs placed control sound
            loaded one;
        footing = record {
          later = one.later;
          past = one.past;
          is = one.is;
          at = one.at ∙ sym loaded.placed_is;
          was = ap (λ (s : Option ControlSettings). record { placement = placement_of one.past; settings = s })
              (read.settings_were ∙ ap Some (sym held));
        };
      }

  -- the records and states that were read stood when the command was made
  stood_then : (log : List (Transaction Q P)) (control : StoreControl) → IsRising log → AllByRecursion IsOfDeed log
      → (knows : KnowsStore log control) → (later past : List (Transaction Q P)) (txn : Transaction Q P)
      → log ≡ later ++ txn ∷ past
      → revision_of placement_key past ≡ control.placed → placement_of past ≡ knows.read
  stood_then log control rising deeds knows later past txn is now =
      stood_among IsOfDeed placement_of placement_key placement_view log knows.read control.placed rising deeds
      (inl refl)
      knows.placement_was (later ++ txn ∷ []) past (is ∙ regroup later txn past) now
    where
      regroup : (xs : List (Transaction Q P)) (x : Transaction Q P) (ys : List (Transaction Q P))
          → xs ++ x ∷ ys ≡ (xs ++ x ∷ []) ++ ys
      regroup [] x ys = refl
      regroup (z ∷ xs) x ys = ap (λ (rest : List (Transaction Q P)). z ∷ rest) (regroup xs x ys)

  placed_held : (log : List (Transaction Q P)) (elected placed : ℕ) (rest : List Compare)
      → all_hold log (at leader_key elected ∷ at placement_key placed ∷ rest) ≡ true
      → revision_of placement_key log ≡ placed
  placed_held log elected placed rest held =
      (first_held log placement_key placed rest
      (first_held log leader_key elected (at placement_key placed ∷ rest) held).1).0

  entered_known : (log : List (Transaction Q P)) (control new : StoreControl) (a : ℕ) (run : ServerRun)
      (revision : ℕ)
      → IsRising log → AllByRecursion IsOfDeed log → AreSound control.desk.books → KnowsStore log control
      → IsKnown control.desk.books.servers a
      → CommandWasMade log
      (transaction_of (Restarting control.lead.process a run control.lead.elected control.placed))
      revision
      → new.desk.books ≡ with_state control.desk.books a run.state → new.records.items ≡ control.records.items
      → new.runs.items ≡ set control.runs.items (place_of control.desk.books.servers a) run
      → new.lead ≡ control.lead → new.placed ≡ revision → KnowsStore log new
  entered_known log control new a run revision rising deeds sound knows known made books reads runs lead placed =
      let past = made.past in
      let deed : Deed Q P = Restarting control.lead.process a run control.lead.elected control.placed in
      let rest = absence_compares a run.state in
      let now = placed_held past control.lead.elected control.placed rest made.held in
      let was = stood_then log control rising deeds knows made.later past (done_at revision deed) made.is now in
      let before : Agrees control.desk.books (placement_of past) = subst (Agrees control.desk.books) (sym was)
      knows.agrees in
      record {
        led = subst (λ (l : Leadership). HasLed log l.process l.elected) (sym lead) knows.led;
        read = placement_of (done_at revision deed ∷ past);
        placement_was = record {
          later = made.later;
          past = done_at revision deed ∷ past;
          is = made.is;
          at = sym placed;
          was = refl;
        };
        agrees = subst (λ (b : BooksView). Agrees b (placement_of (done_at revision deed ∷ past))) (sym books)
            (agrees_entered control.desk.books past control.lead.process a run control.lead.elected control.placed
            sound.states known before);
        records = λ k below.
            ap (λ (rs : List RecordRead). (read_at rs k).state) reads
            ∙ knows.records k (subst (λ (b : BooksView). k < length b.shards) books below)
            ∙ ap (λ (p : Placement). p.records k) (sym was);
        stood = λ k below.
            subst (λ (rs : List RecordRead). WasFound (stored_record k) (record_key k) log (read_at rs k).state
            (read_at rs k).stood) (sym reads)
            (knows.stood k (subst (λ (b : BooksView). k < length b.shards) books below));
        count = ap length reads ∙ knows.count ∙ ap (λ (b : BooksView). length b.shards) (sym books);
        processes = λ b there.
            let servers : new.desk.books.servers ≡ control.desk.books.servers =
            ap (λ (all : BooksView). all.servers) books in
            let known_b : IsKnown control.desk.books.servers b =
            subst (λ (rows : List ServerRow). IsKnown rows b) servers there in
            ap (λ (rows : List ServerRow). (get_or new.runs.items (place_of rows b) unentered).process) servers
            ∙ ap (λ (all : List ServerRun). (get_or all (place_of control.desk.books.servers b) unentered).process) runs
            ∙ processes_entered control.runs.items control.desk.books.servers past control.lead.process a run
            control.lead.elected control.placed knows.run_count known b
            (knows.processes b known_b ∙ ap (λ (p : Placement). p.processes b) (sym was));
        run_count = ap length runs ∙ length-set control.runs.items (place_of control.desk.books.servers a) run
            ∙ knows.run_count ∙ ap (λ (b : BooksView). length b.servers) (sym books);
      }

  changed_known : (log : List (Transaction Q P)) (control new : StoreControl) (process k : ℕ) (change : AnyChange)
      (revision : ℕ) → IsRising log → AllByRecursion IsOfDeed log → KnowsStore log control
      → k < length control.desk.books.shards
      → CommandWasMade log (command_transaction (sending_of control (write_of control process (Change k change))))
      revision
      → IsAfter control (Change k change) (write_of control process (Change k change)) revision new → KnowsStore log new
  changed_known log control new process k change revision rising deeds knows within made after =
      let past = made.past in
      let reads = control.records.items in
      let state = (read_at reads k).state in
      let next = after_change state change in
      let one : RecordRead = record { state = next; stood = revision } in
      let deed : Deed Q P = Changing control.lead.process k change next control.lead.elected control.placed in
      let now = placed_held past control.lead.elected control.placed [] made.held in
      let was = stood_then log control rising deeds knows made.later past (done_at revision deed) made.is now in
      let before : Agrees control.desk.books (placement_of past) = subst (Agrees control.desk.books) (sym was)
      knows.agrees in
      let state_is : state ≡ stored_record k past = knows.records k within ∙ ap (λ (p : Placement). p.records k)
      (sym was) in
      let books = ap (λ (d : DeskView). d.books) after.desk in
      let many : length new.desk.books.shards ≡ length control.desk.books.shards =
      ap (λ (b : BooksView). length b.shards) books ∙ length-with_stand control.desk.books.shards k _ in
      let count = knows.count in
      let inside : k < length reads = omega arith in
      record {
        led = subst (λ (l : Leadership). HasLed log l.process l.elected) (sym after.lead) knows.led;
        read = placement_of (done_at revision deed ∷ past);
        placement_was = record {
          later = made.later;
          past = done_at revision deed ∷ past;
          is = made.is;
          at = sym after.placed;
          was = refl;
        };
        agrees = subst (λ (b : BooksView). Agrees b (placement_of (done_at revision deed ∷ past))) (sym books)
            (agrees_changed control.desk.books past control.lead.process k change next control.lead.elected
            control.placed within (ap (λ (r : Record). after_change r change) state_is) before);
        records = λ j below.
            ap (λ (rs : List RecordRead). (read_at rs j).state) after.records
            ∙ ⊎_elim
            (λ (same : j ≡ k).
            subst (λ (i : ℕ). (read_at (set reads k one) i).state ≡ (if k == i then next else stored_record i past))
            (sym same)
            (ap (λ (r : RecordRead). r.state) (get_or-set_same reads k one unwritten inside)
            ∙ sym (cond-true (k == k) next (stored_record k past) (eq-eqb k k refl))))
            (λ (apart : j ≢ k).
            ap (λ (r : RecordRead). r.state) (get_or-set_other reads k j one unwritten apart)
            ∙ knows.records j (omega arith) ∙ ap (λ (p : Placement). p.records j) (sym was)
            ∙ sym (cond-false (k == j) next (stored_record j past) (ne_eqb k j (λ same. apart (sym same)))))
            (cases_eq j k);
        stood = λ j below.
            subst (λ (rs : List RecordRead). WasFound (stored_record j) (record_key j) log (read_at rs j).state
            (read_at rs j).stood) (sym after.records)
            (⊎_elim
            (λ (same : j ≡ k).
            subst (λ (r : RecordRead). WasFound (stored_record j) (record_key j) log r.state r.stood)
            (sym (ap (λ (i : ℕ). read_at (set reads k one) i) same ∙ get_or-set_same reads k one unwritten inside))
            (record {
              later = made.later;
              past = done_at revision deed ∷ past;
              is = made.is;
              at = cond-true (k == j) revision (revision_of (record_key j) past) (eq-eqb k j (sym same));
              was = cond-true (k == j) next (stored_record j past) (eq-eqb k j (sym same));
            }))
            (λ (apart : j ≢ k).
            subst (λ (r : RecordRead). WasFound (stored_record j) (record_key j) log r.state r.stood)
            (sym (get_or-set_other reads k j one unwritten apart))
            (knows.stood j (omega arith)))
            (cases_eq j k));
        count = ap length after.records ∙ length-set reads k one ∙ count ∙ sym many;
        processes = λ a there.
            let servers : new.desk.books.servers ≡ control.desk.books.servers =
            ap (λ (all : BooksView). all.servers) books in
            ap (λ (rows : List ServerRow). (get_or new.runs.items (place_of rows a) unentered).process) servers
            ∙ ap (λ (all : List ServerRun). (get_or all (place_of control.desk.books.servers a) unentered).process)
            after.runs
            ∙ knows.processes a (subst (λ (rows : List ServerRow). IsKnown rows a) servers there)
            ∙ ap (λ (p : Placement). p.processes a) (sym was);
        run_count = ap length after.runs ∙ knows.run_count ∙ ap (λ (b : BooksView). length b.servers) (sym books);
      }

  pub outcome_known : (charter : Charter Q P) (log : List (Transaction Q P)) (control new : StoreControl)
      (process : ℕ) (command : Command) (revision : ℕ) → AreRight charter log → AreSound control.desk.books
      → KnowsStore log control
      → command_fault control command ≡ None
      → CommandWasMade log (command_transaction (sending_of control (write_of control process command))) revision
      → IsAfter control command (write_of control process command) revision new → KnowsStore log new
  outcome_known charter log control new process (Change k change) revision right sound knows none made after =
      changed_known log control new process k change revision (rising_of_right charter log right)
      (deeds_of_right charter log right) knows
      (let_through control.desk.books k change (none_both _ _ none).0).within made after
  outcome_known charter log control new process (Ask a) revision right sound knows none made after =
      entered_known log control new a (run_into control process a states.Asked) revision
      (rising_of_right charter log right) (deeds_of_right charter log right) sound knows
      (known_of control.desk.books a _ (none_both _ _ none).0) made (ap (λ (d : DeskView). d.books) after.desk)
      after.records after.runs after.lead after.placed
  outcome_known charter log control new process (Approve a) revision right sound knows none made after =
      entered_known log control new a (run_into control process a states.Approved) revision
      (rising_of_right charter log right) (deeds_of_right charter log right) sound knows
      (known_of control.desk.books a _ (none_both _ _ none).0) made (ap (λ (d : DeskView). d.books) after.desk)
      after.records after.runs after.lead after.placed
  outcome_known charter log control new process (Stopped a) revision right sound knows none made after =
      entered_known log control new a (run_into control process a states.Stopped) revision
      (rising_of_right charter log right) (deeds_of_right charter log right) sound knows
      (known_of control.desk.books a _ (none_both _ _ none).0) made (ap (λ (d : DeskView). d.books) after.desk)
      after.records after.runs after.lead after.placed
  outcome_known charter log control new process (Back a) revision right sound knows none made after =
      entered_known log control new a (run_into control process a states.Up) revision
      (rising_of_right charter log right) (deeds_of_right charter log right) sound knows
      (known_of control.desk.books a _ (none_both _ _ none).0) made (ap (λ (d : DeskView). d.books) after.desk)
      after.records after.runs after.lead after.placed
  outcome_known charter log control new process (Fail a) revision right sound knows none made after =
      entered_known log control new a (run_into control process a states.Failed) revision
      (rising_of_right charter log right) (deeds_of_right charter log right) sound knows
      (known_of control.desk.books a _ (none_both _ _ none).0) made (ap (λ (d : DeskView). d.books) after.desk)
      after.records after.runs after.lead after.placed

  -- the settings of a control are in force after its command, too
  footing_after : (charter : Charter Q P) (log : List (Transaction Q P)) (control new : StoreControl)
      (read : Placement) (deed : Deed Q P) (elected revision : ℕ) (rest : List Compare) → AreRight charter log
      → HasFooting charter.settings log read (settings_held control) control.placed
      → (made : CommandWasMade log (transaction_of deed) revision)
      → (transaction_of deed).compares ≡ at leader_key elected ∷ at placement_key control.placed ∷ rest
      → touches placement_key (transaction_of deed).writes ≡ true
      → ((past : List (Transaction Q P)) → stored_settings (done_at revision deed ∷ past) ≡ stored_settings past)
      → settings_held new ≡ settings_held control → new.placed ≡ revision
      → (settled : revision_of placement_key (done_at revision deed ∷ made.past) ≡ revision)
      → HasFooting charter.settings log (placement_of (done_at revision deed ∷ made.past)) (settings_held new)
      new.placed
  footing_after charter log control new read deed elected revision rest right footing made compares touched leaves same
      placed settled =
      let past = made.past in
      let held : all_hold past (at leader_key elected ∷ at placement_key control.placed ∷ rest) ≡ true =
      subst (λ (all : List Compare). all_hold past all ≡ true) compares made.held in
      let now = placed_held past elected control.placed rest held in
      let was = footing_then charter log read (settings_held control) control.placed right footing made.later past
      (done_at revision deed) made.is touched now in
      record {
        later = made.later;
        past = done_at revision deed ∷ past;
        is = made.is;
        at = settled ∙ sym placed;
        was = ap (λ (s : Option ControlSettings). record {
          placement = placement_of (done_at revision deed ∷ past);
          settings = s;
        }) (ap (read_by charter.settings) (leaves past) ∙ ap (λ (f : Footing). f.settings) was ∙ ap Some (sym same));
      }

  pub outcome_goes_by : (charter : Charter Q P) (log : List (Transaction Q P)) (control new : StoreControl)
      (process : ℕ) (command : Command) (revision : ℕ) → AreRight charter log → AreSound control.desk.books
      → GoesByStore charter.settings log control
      → command_fault control command ≡ None
      → CommandWasMade log (command_transaction (sending_of control (write_of control process command))) revision
      → IsAfter control command (write_of control process command) revision new
      → GoesByStore charter.settings log new
  unfolding outcome_known changed_known entered_known
  outcome_goes_by charter log control new process (Change k change) revision right sound by none made after = record {
    knows = outcome_known charter log control new process (Change k change) revision right sound by.knows none made
        after;
    footing = footing_after charter log control new by.knows.read
        (Changing control.lead.process k change (after_change (read_at control.records.items k).state change)
        control.lead.elected control.placed)
        control.lead.elected revision [] right by.footing made refl refl (λ past. refl)
        (held_after control new (Change k change) after.desk after.ceiling) after.placed refl;
  }
  outcome_goes_by charter log control new process (Ask a) revision right sound by none made after = record {
    knows = outcome_known charter log control new process (Ask a) revision right sound by.knows none made after;
    footing = footing_after charter log control new by.knows.read
        (Restarting control.lead.process a (run_into control process a states.Asked) control.lead.elected
        control.placed)
        control.lead.elected revision [] right by.footing made refl refl (λ past. refl)
        (held_after control new (Ask a) after.desk after.ceiling) after.placed refl;
  }
  outcome_goes_by charter log control new process (Approve a) revision right sound by none made after = record {
    knows = outcome_known charter log control new process (Approve a) revision right sound by.knows none made after;
    footing = footing_after charter log control new by.knows.read
        (Restarting control.lead.process a (run_into control process a states.Approved) control.lead.elected
        control.placed)
        control.lead.elected revision [] right by.footing made refl refl (λ past. refl)
        (held_after control new (Approve a) after.desk after.ceiling) after.placed refl;
  }
  outcome_goes_by charter log control new process (Stopped a) revision right sound by none made after = record {
    knows = outcome_known charter log control new process (Stopped a) revision right sound by.knows none made after;
    footing = footing_after charter log control new by.knows.read
        (Restarting control.lead.process a (run_into control process a states.Stopped) control.lead.elected
        control.placed)
        control.lead.elected revision [] right by.footing made refl refl (λ past. refl)
        (held_after control new (Stopped a) after.desk after.ceiling) after.placed refl;
  }
  outcome_goes_by charter log control new process (Back a) revision right sound by none made after = record {
    knows = outcome_known charter log control new process (Back a) revision right sound by.knows none made after;
    footing = footing_after charter log control new by.knows.read
        (Restarting control.lead.process a (run_into control process a states.Up) control.lead.elected
        control.placed)
        control.lead.elected revision [] right by.footing made refl refl (λ past. refl)
        (held_after control new (Back a) after.desk after.ceiling) after.placed refl;
  }
  outcome_goes_by charter log control new process (Fail a) revision right sound by none made after = record {
    knows = outcome_known charter log control new process (Fail a) revision right sound by.knows none made after;
    footing = footing_after charter log control new by.knows.read
        (Restarting control.lead.process a (run_into control process a states.Failed) control.lead.elected
        control.placed)
        control.lead.elected revision (at (server_key a) 0 ∷ []) right by.footing made refl refl (λ past. refl)
        (held_after control new (Fail a) after.desk after.ceiling) after.placed refl;
  }
