-- Every run of servers and controls is one of a fleet, in which each command that a control sends may be sent.
use Rattle.std.proofs.Common.{◌≡◌, ℕ, Bool, true, false, List, [], ◌∷◌, ◌++◌, Option, Some, None, refl, sym, ap, subst}
use Rattle.std.proofs.Common.{◌∙◌}
use Rattle.std.specs.Prelude.{IfSome, if◌then◌else◌}
use Rattle.std.specs.List.{AllByRecursion}
use Rattle.std.proofs.lemmas.Bool.{true≢false}
use Rattle.sm_place.specs.Sound.{AreSound}
use Rattle.sm_tasks.specs.Caps.{MeetsCaps}
use Rattle.sm_desk.specs.declared.command.Command.{Command}
use Rattle.sm_desk.specs.Desk.{DeskView, commanded, desk_fault}
use Rattle.sm_store.specs.declared.item.Item.{Item}
use Rattle.sm_store.specs.declared.server_run.ServerRun.{ServerRun}
use Rattle.sm_store.specs.Clients.{Automaton}
use Rattle.sm_store.specs.Deeds.{AreRight, Charter, Deed, Electing, Expiring, Changing, Restarting, Settling}
use Rattle.sm_store.specs.Deeds.{Resettling}
use Rattle.sm_store.specs.Deeds.{Executing, Basing, Naming, Clearing, Following, Checking, Foreign, MaySend}
use Rattle.sm_store.specs.Deeds.{transaction_of}
use Rattle.sm_store.specs.Linear.{AsksFor, DidAsk, IsLinear}
use Rattle.sm_store.specs.Settings.{ControlSettings}
use Rattle.sm_store.specs.Store.{Deletes, Transaction, head_key, touches}
use Rattle.sm_store.specs.System.{Ask, Event, Comes, Sends, Reaches, Claims, IsLawful, May, System, system_after}
use Rattle.sm_store.specs.lemmas.Logs.{GoesOnFrom, all_among, all_map, log_step}
use Rattle.sm_shard.specs.Bases.{Part, base_of}
use Rattle.sm_shard.specs.Fleet.{Act, AllAskFor, AsksForAct, Fleet, MayAct, MightAct, Otherwise, Starts, Steps}
use Rattle.sm_shard.specs.Fleet.{AsksForEvent, Running, events_of, fleet_acted, fleet_after}
use Rattle.sm_shard.specs.ShardServers.{IsTrueOf, StoreLog}
use Rattle.sm_lead.specs.declared.ack_read.AckRead.{AckRead}
use Rattle.sm_lead.specs.declared.command_write.CommandWrite.{CommandWrite}
use Rattle.sm_lead.specs.declared.leadership.Leadership.{Leadership}
use Rattle.sm_lead.specs.declared.record_read.RecordRead.{RecordRead}
use Rattle.sm_lead.specs.declared.sent_command.Judged.TheVariants.{Sent, Refused}
use Rattle.sm_lead.specs.declared.sent_command.SendOutcome.{SendOutcome}
use Rattle.sm_lead.specs.declared.sent_command.SendOutcome.TheVariants.{Made, Lost, Unknown}
use Rattle.sm_lead.specs.declared.sent_command.SentCommand.{SentCommand}
use Rattle.sm_lead.specs.declared.store_control.StoreControl.{StoreControl}
use Rattle.sm_lead.specs.Commands.{IsAfter, command_fault, may_name, write_of}
use Rattle.sm_lead.specs.Controls.{CommandWasMade, GoesByStore, IsLoaded, IsReadBy, IsReadOf, KnowsStore, written_desk}
use Rattle.sm_lead.specs.Controls.{settings_held}
use Rattle.sm_lead.specs.Placements.{AreKeptBy, SettingsReading, charter_of}
use Rattle.sm_lead.specs.Resettlings.{resettle_fault, resettling as resettling_of}
use Rattle.sm_lead.specs.Sendings.{command_transaction, sending_of}
use Rattle.sm_lead.specs.Waits.{AreAcksMade, has_waited}
use Rattle.sm_whole.specs.Runs.{AreGivenAsked, Given, IsRun, MayBeActed, MayOccur, WholeAct, charter_given}
use Rattle.sm_whole.specs.Runs.{Serves, Loads, Judges, Resettles, Hears, MaySendSettings, command_sent, fleet_acts}
use Rattle.sm_whole.specs.Runs.{is_of_world}
use Rattle.sm_whole.specs.Runs.{AreByExecutors, IsGivenAsked, IsConcluded, IsToldSo, MayServe}
use Rattle.sm_whole.specs.Runs.{whole_after, with_left}
use Rattle.sm_whole.proofs.Executors.{by_executors}
use Rattle.sm_whole.proofs.Controls.{IsGoodCommand, IsGoodControl, command_grows, control_grows, left_knows, sent_may}

-- the laws of the crates below about controls
pub record ControlLaws (Q R : Type 0) : Type 0 where
  pub sound : (desk : DeskView) (command : Command) → AreSound desk.books → desk_fault desk command ≡ None
      → AreSound (commanded desk command).books
  pub knows : (log : StoreLog Q R) (desk : DeskView) (lead : Leadership) (ceiling : ℕ)
      (waits : Bool) (reads : List RecordRead) (runs : List ServerRun) (placed : ℕ) (control : StoreControl)
      → AreSound control.desk.books → IsLoaded desk lead ceiling waits reads runs placed control
      → IsReadOf log desk lead reads runs placed → KnowsStore log control
  pub reading : (reading : List ℕ → Option ControlSettings) (log : StoreLog Q R) (settings : ControlSettings)
      (lead : Leadership) (waits : Bool) (reads : List RecordRead) (runs : List ServerRun) (placed : ℕ)
      (control : StoreControl) → AreSound control.desk.books
      → IsLoaded (written_desk settings) lead settings.ceiling waits reads runs placed control
      → IsReadBy reading log settings lead reads runs placed → GoesByStore reading log control
  pub held : (settings : ControlSettings) (lead : Leadership) (waits : Bool) (reads : List RecordRead)
      (runs : List ServerRun) (placed : ℕ) (control : StoreControl)
      → IsLoaded (written_desk settings) lead settings.ceiling waits reads runs placed control
      → settings_held control ≡ settings
  pub sending : (reading : SettingsReading) (parts : List (Item Q) → List (Part R)) (log : StoreLog Q R)
      (control : StoreControl) (acks : List AckRead) (process : ℕ) (command : Command)
      → AreSound control.desk.books → GoesByStore reading.settings log control
      → AreAcksMade log acks → command_fault control command ≡ None → has_waited control acks command ≡ true
      → may_name control (write_of control process command) ≡ true
      → MaySend (charter_of reading control.waits parts) log
      (command_transaction (sending_of control (write_of control process command)))
  pub resettling : (reading : SettingsReading) (parts : List (Item Q) → List (Part R)) (log : StoreLog Q R)
      (control other : StoreControl) (settings : List ℕ) → AreRight (charter_of reading control.waits parts) log
      → AreSound control.desk.books → GoesByStore reading.settings log control → AreSound other.desk.books
      → MeetsCaps other.desk.caps other.desk.books → KnowsStore log other
      → reading.settings settings ≡ Some (settings_held other) → resettle_fault control other ≡ None
      → MaySend (charter_of reading control.waits parts) log (resettling_of control settings)
  pub outcome : (charter : Charter Q (Part R)) (log : StoreLog Q R) (control new : StoreControl) (process : ℕ)
      (command : Command) (revision : ℕ) → AreRight charter log → AreSound control.desk.books
      → GoesByStore charter.settings log control → command_fault control command ≡ None
      → CommandWasMade log (command_transaction (sending_of control (write_of control process command))) revision
      → IsAfter control command (write_of control process command) revision new
      → GoesByStore charter.settings log new
  pub asks : (asked : List (Ask Q)) (control : StoreControl) (process : ℕ) (command : Command)
      (txn : Transaction Q (Part R))
      → txn ≡ command_transaction (sending_of control (write_of control process command)) → AsksFor asked txn
  pub asks_not : (asked : List (Ask Q)) (control : StoreControl) (settings : List ℕ)
      → AsksFor {P = Part R} asked (resettling_of control settings)
  pub caps : (reading : SettingsReading) (waits : Bool) (parts : List (Item Q) → List (Part R)) (log : StoreLog Q R)
      → AreRight (charter_of reading waits parts) log → AreKeptBy reading log

-- and those about servers
pub record FleetLaws {M Q R : Type 0} (service : Automaton M Q R) : Type 0 where
  pub lawful : (charter : Charter Q (Part R)) (acts : List (Act M Q R)) → charter.parts ≡ base_of service
      → MightAct service charter acts → IsLawful service charter (fleet_after acts).system
  pub known : (charter : Charter Q (Part R)) (acts : List (Act M Q R)) → charter.parts ≡ base_of service
      → MightAct service charter acts
      → AllByRecursion (λ (running : Running M Q R). IsTrueOf service (fleet_after acts).system.log running.server)
      (fleet_after acts).servers
  pub linear : (charter : Charter Q (Part R)) (acts : List (Act M Q R)) → charter.parts ≡ base_of service
      → MightAct service charter acts → AllAskFor acts → IsLinear service (events_of acts)

none_asked : {Q : Type 0} (asked : List (Ask Q)) (shard : ℕ) (b : Bool)
    → AllByRecursion (λ (item : Item Q). DidAsk asked shard item.client item.number item.request)
    (if b then [] else [])
none_asked asked shard true = tt
none_asked asked shard false = tt

-- a deed of the world makes no request
module _ {Q P : Type 0} (asked : List (Ask Q)) where
  world_asks : (deed : Deed Q P) → is_of_world deed ≡ true → AsksFor asked (transaction_of deed)
  world_asks (Electing process) so = λ shard. tt
  world_asks (Expiring keys) so =
      λ shard. none_asked asked shard (touches {Q = Q} {P = P} (head_key shard) (Deletes keys ∷ []))
  world_asks (Settling settings) so = λ shard. tt
  world_asks (Following server revision acks told) so =
      λ shard. none_asked asked shard (touches {Q = Q} {P = P} (head_key shard) (transaction_of {Q = Q} {P = P}
      (Following server revision acks told)).writes)
  world_asks (Checking compares) so = λ shard. tt
  world_asks Foreign so = λ shard. tt
  world_asks (Changing process shard change next elected placed) so = absurd (true≢false (sym so))
  world_asks (Restarting process server run elected placed) so = absurd (true≢false (sym so))
  world_asks (Resettling process settings elected placed) so = absurd (true≢false (sym so))
  world_asks (Executing shard server items head stood logged) so = absurd (true≢false (sym so))
  world_asks (Basing shard number place part) so = absurd (true≢false (sym so))
  world_asks (Naming shard head number parts logged) so = absurd (true≢false (sym so))
  world_asks (Clearing keys) so = absurd (true≢false (sym so))

module _ {M Q R : Type 0} where
  -- the fleet of a run is that of its acts
  pub fleet_is : (acts : List (WholeAct M Q R)) → (whole_after acts).fleet ≡ fleet_after (fleet_acts acts)
  fleet_is [] = refl
  fleet_is (Serves act ∷ acts) = ap (λ (fleet : Fleet M Q R). fleet_acted fleet act) (fleet_is acts)
  fleet_is (Loads settings lead reads runs placed control ∷ acts) = fleet_is acts
  fleet_is (Judges control acks process command (Sent sent) ∷ acts) =
      ap (λ (fleet : Fleet M Q R). fleet_acted fleet (Otherwise (Sends (command_sent sent)))) (fleet_is acts)
  fleet_is (Judges control acks process command (Refused kept fault) ∷ acts) = fleet_is acts
  fleet_is (Resettles control other settings ∷ acts) =
      ap (λ (fleet : Fleet M Q R). fleet_acted fleet (Otherwise (Sends (resettling_of control settings))))
      (fleet_is acts)
  fleet_is (Hears sent outcome left ∷ acts) = fleet_is acts

  fleet_grows : (fleet : Fleet M Q R) (act : Act M Q R)
      → GoesOnFrom fleet.system.log (fleet_acted fleet act).system
  fleet_grows fleet (Starts server) = ([], refl)
  fleet_grows fleet (Steps which old input result new) = ([], refl)
  fleet_grows fleet (Otherwise event) = log_step fleet.system event

module _ {M Q R : Type 0} (service : Automaton M Q R) (given : Given) where
  abbrev charter : Charter Q (Part R)
  charter = charter_given service given

  occur_may : (system : System Q (Part R) R) (event : Event Q (Part R) R) → MayOccur service charter system event
      → May service charter system event
  occur_may system (Sends txn) may = record { deed = may.deed; is = may.is; may = may.may }
  occur_may system (Claims claim) may = absurd may
  occur_may system (Comes shard client number request) may = may
  occur_may system (Reaches which revision) may = may

  serve_may : (fleet : Fleet M Q R) (act : Act M Q R)
      → MayServe service charter fleet act → MayAct service charter fleet act
  serve_may fleet (Starts server) may = may
  serve_may fleet (Steps which old input result new) may = may.0
  serve_may fleet (Otherwise event) may = occur_may fleet.system event may

  -- the run is one of a fleet, and each control's knowledge is true
  pub record IsGoodRun (acts : List (WholeAct M Q R)) : Type 0 where
    pub might : MightAct service charter (fleet_acts acts)
    pub controls : AllByRecursion (IsGoodControl given (whole_after acts).fleet.system.log) (whole_after acts).controls
    pub commands : AllByRecursion (IsGoodCommand given (whole_after acts).fleet.system.log) (whole_after acts).commands

  controls_grow : (before now : StoreLog Q R) (more : StoreLog Q R) → now ≡ more ++ before
      → (controls : List StoreControl) → AllByRecursion (IsGoodControl given before) controls
      → AllByRecursion (IsGoodControl given now) controls
  controls_grow before now more is controls all =
      subst (λ (log : StoreLog Q R). AllByRecursion (IsGoodControl given log) controls) (sym is)
      (all_map (IsGoodControl given before) (IsGoodControl given (more ++ before)) (control_grows given more before)
      controls all)

  commands_grow : (before now : StoreLog Q R) (more : StoreLog Q R) → now ≡ more ++ before
      → (commands : List SentCommand) → AllByRecursion (IsGoodCommand given before) commands
      → AllByRecursion (IsGoodCommand given now) commands
  commands_grow before now more is commands all =
      subst (λ (log : StoreLog Q R). AllByRecursion (IsGoodCommand given log) commands) (sym is)
      (all_map (IsGoodCommand given before) (IsGoodCommand given (more ++ before)) (command_grows given more before)
      commands all)

  with_one : (log : StoreLog Q R) (left : Option StoreControl) (controls : List StoreControl)
      → IfSome left (IsGoodControl given log) → AllByRecursion (IsGoodControl given log) controls
      → AllByRecursion (IsGoodControl given log) (with_left left controls)
  with_one log None controls one all = all
  with_one log (Some control) controls one all = (one, all)

  left_good : ControlLaws Q R → (log : StoreLog Q R) → AreRight charter log → (sent : SentCommand)
      → IsGoodCommand given log sent → (outcome : SendOutcome) (left : Option StoreControl)
      → IsToldSo {Q = Q} {P = Part R} log sent outcome
      → IsConcluded sent outcome left → IfSome left (IsGoodControl given log)
  left_good laws log right sent good (Made revision) None told left = tt
  left_good laws log right sent good (Made revision) (Some new) told left =
      left_knows given log sent revision new good laws.sound
      (λ after made. laws.outcome charter log sent.control new good.process sent.command revision right good.by.sound
      good.by.goes_by good.allowed made after)
      told left
  left_good laws log right sent good Lost left told is =
      subst (λ (o : Option StoreControl). IfSome o (IsGoodControl given log)) (sym is) tt
  left_good laws log right sent good Unknown left told is =
      subst (λ (o : Option StoreControl). IfSome o (IsGoodControl given log)) (sym is) tt

  run_right : FleetLaws service → (acts : List (WholeAct M Q R)) → IsGoodRun acts
      → AreRight charter (whole_after acts).fleet.system.log
  run_right fleets acts run =
      subst (λ (fleet : Fleet M Q R). AreRight charter fleet.system.log) (sym (fleet_is acts))
      (fleets.lawful charter (fleet_acts acts) refl run.might).right

  -- settings that a control doesn't refuse may be sent by the charter
  settings_may : ControlLaws Q R → (log : StoreLog Q R) → AreRight charter log → (control other : StoreControl)
      (settings : List ℕ) → IsGoodControl given log control → MaySendSettings given log control other settings
      → MaySend charter log (resettling_of control settings)
  settings_may laws log right control other settings good may =
      let draft = may.draft in
      let one = may.settings in
      let held = laws.held one draft.lead given.waits draft.reads draft.runs draft.placed other draft.loaded in
      let knew =
      laws.knows log (written_desk one) draft.lead one.ceiling given.waits draft.reads draft.runs draft.placed
      other draft.sound draft.loaded draft.read in
      subst (λ (waits : Bool). MaySend (charter_of given.reading waits (base_of service)) log
      (resettling_of control settings)) good.waits
      (laws.resettling given.reading (base_of service) log control other settings
      (subst (λ (waits : Bool). AreRight (charter_of given.reading waits (base_of service)) log) (sym good.waits) right)
      good.sound good.goes_by draft.sound draft.caps knew (may.are_read ∙ ap Some (sym held)) may.allowed)

  run_acts : ControlLaws Q R → FleetLaws service → (acts : List (WholeAct M Q R)) (act : WholeAct M Q R)
      → IsGoodRun acts → MayBeActed service given (whole_after acts) act → IsGoodRun (act ∷ acts)
  run_acts laws fleets acts (Serves act) run may =
      let whole = whole_after acts in
      let log = whole.fleet.system.log in
      let grown = fleet_grows whole.fleet act in
      record {
        might = (
          subst (λ (fleet : Fleet M Q R). MayAct service charter fleet act) (fleet_is acts)
              (serve_may whole.fleet act may),
          run.might,
        );
        controls = controls_grow log (fleet_acted whole.fleet act).system.log grown.0 grown.1 whole.controls
            run.controls;
        commands = commands_grow log (fleet_acted whole.fleet act).system.log grown.0 grown.1 whole.commands
            run.commands;
      }
  run_acts laws fleets acts (Loads settings lead reads runs placed control) run may =
      let log = (whole_after acts).fleet.system.log in
      let loaded = may.1 in
      record {
        might = run.might;
        controls = (
          record {
            goes_by = laws.reading given.reading.settings log settings lead given.waits reads runs placed control may.0
                loaded may.2;
            sound = may.0;
            waits = loaded.waits_is;
          },
          run.controls,
        );
        commands = run.commands;
      }
  run_acts laws fleets acts (Judges control acks process command (Sent sent)) run may =
      let whole = whole_after acts in
      let log = whole.fleet.system.log in
      let good : IsGoodControl given log control =
      all_among (IsGoodControl given log) whole.controls control run.controls may.0 in
      let judged = may.4 in
      let mine : IsGoodCommand given log sent = record {
        by = subst (IsGoodControl given log) (sym judged.1) good;
        allowed = subst (λ (c : StoreControl). command_fault c sent.command ≡ None) (sym judged.1)
            (subst (λ (c : Command). command_fault control c ≡ None) (sym judged.2) judged.0);
        process = process;
        write = judged.3
            ∙ ap (λ (c : StoreControl). write_of c process command) (sym judged.1)
            ∙ ap (λ (c : Command). write_of sent.control process c) (sym judged.2);
      } in
      let sends : MaySend charter log (command_sent sent) =
      sent_may (base_of service) given log sent mine
      (laws.sending given.reading (base_of service) log sent.control acks process sent.command mine.by.sound
      mine.by.goes_by may.1
      mine.allowed
      (subst (λ (c : StoreControl). has_waited c acks sent.command ≡ true) (sym judged.1)
      (subst (λ (c : Command). has_waited control acks c ≡ true) (sym judged.2) may.2))
      (subst (λ (c : StoreControl). may_name c (write_of c process sent.command) ≡ true) (sym judged.1)
      (subst (λ (c : Command). may_name control (write_of control process c) ≡ true) (sym judged.2) may.3))) in
      record {
        might = (
          subst (λ (fleet : Fleet M Q R). MaySend charter fleet.system.log (command_sent sent)) (fleet_is acts) sends,
          run.might,
        );
        controls = run.controls;
        commands = (mine, run.commands);
      }
  run_acts laws fleets acts (Judges control acks process command (Refused kept fault)) run may = record {
    might = run.might;
    controls = run.controls;
    commands = run.commands;
  }
  run_acts laws fleets acts (Resettles control other settings) run may =
      let log = (whole_after acts).fleet.system.log in
      let good : IsGoodControl given log control =
      all_among (IsGoodControl given log) (whole_after acts).controls control run.controls may.0 in
      let sends = settings_may laws log (run_right fleets acts run) control other settings good may.1 in
      record {
        might = (
          subst (λ (fleet : Fleet M Q R). MaySend charter fleet.system.log (resettling_of control settings))
              (fleet_is acts) sends,
          run.might,
        );
        controls = run.controls;
        commands = run.commands;
      }
  run_acts laws fleets acts (Hears sent outcome left) run may =
      let whole = whole_after acts in
      let log = whole.fleet.system.log in
      let good : IsGoodCommand given log sent =
      all_among (IsGoodCommand given log) whole.commands sent run.commands may.0 in
      let right = run_right fleets acts run in
      record {
        might = run.might;
        controls = with_one log left whole.controls (left_good laws log right sent good outcome left may.1 may.2)
            run.controls;
        commands = run.commands;
      }

  good_run : ControlLaws Q R → FleetLaws service → (acts : List (WholeAct M Q R)) → IsRun service given acts
      → IsGoodRun acts
  good_run laws fleets [] run = record { might = tt; controls = tt; commands = tt }
  good_run laws fleets (act ∷ earlier) run =
      run_acts laws fleets earlier act (good_run laws fleets earlier run.1) run.0

  event_asks : (system : System Q (Part R) R) (servers : List (Running M Q R))
      (event : Event Q (Part R) R) → MayOccur service charter system event
      → AsksForEvent {M = M} (record { system = system; servers = servers }) event
  event_asks system servers (Sends txn) may =
      subst (AsksFor system.asked) (sym may.is) (world_asks system.asked may.deed may.of_world)
  event_asks system servers (Claims claim) may = tt
  event_asks system servers (Comes shard client number request) may = tt
  event_asks system servers (Reaches which revision) may = tt

  act_asks : (fleet : Fleet M Q R) (act : Act M Q R)
      → MayServe service charter fleet act
      → IsGivenAsked fleet act → AsksForAct fleet act
  act_asks fleet (Starts server) may given_asked = tt
  act_asks fleet (Steps which old input result new) may given_asked = (given_asked, may.1)
  act_asks fleet (Otherwise event) may given_asked = event_asks fleet.system fleet.servers event may

  -- nobody makes a request that wasn't asked, if servers are given only such
  all_ask : ControlLaws Q R → (acts : List (WholeAct M Q R)) → IsRun service given acts → AreGivenAsked acts
      → AllAskFor (fleet_acts acts)
  all_ask laws [] run asked = tt
  all_ask laws (Serves act ∷ acts) run asked = (
    subst (λ (fleet : Fleet M Q R). AsksForAct fleet act) (fleet_is acts)
        (act_asks (whole_after acts).fleet act run.0 asked.0),
    all_ask laws acts run.1 asked.1,
  )
  all_ask laws (Loads settings lead reads runs placed control ∷ acts) run asked = all_ask laws acts run.1 asked
  all_ask laws (Judges control acks process command (Sent sent) ∷ acts) run asked =
      let judged = run.0.4 in (
        laws.asks (fleet_after (fleet_acts acts)).system.asked control process command (command_sent sent)
            (ap (λ (c : StoreControl). command_transaction (sending_of c sent.write)) judged.1
            ∙ ap (λ (w : CommandWrite). command_transaction (sending_of control w)) judged.3),
        all_ask laws acts run.1 asked,
      )
  all_ask laws (Judges control acks process command (Refused kept fault) ∷ acts) run asked =
      all_ask laws acts run.1 asked
  all_ask laws (Resettles control other settings ∷ acts) run asked = (
    laws.asks_not (fleet_after (fleet_acts acts)).system.asked control settings,
    all_ask laws acts run.1 asked,
  )
  all_ask laws (Hears sent outcome left ∷ acts) run asked = all_ask laws acts run.1 asked

  -- a property of all runs of servers also holds with controls
  pub lawful : ControlLaws Q R → FleetLaws service → (acts : List (WholeAct M Q R)) → IsRun service given acts
      → IsLawful service charter (whole_after acts).fleet.system
  lawful laws fleets acts run =
      subst (λ (fleet : Fleet M Q R). IsLawful service charter fleet.system) (sym (fleet_is acts))
      (fleets.lawful charter (fleet_acts acts) refl (good_run laws fleets acts run).might)

  pub keeps_caps : ControlLaws Q R → FleetLaws service → (acts : List (WholeAct M Q R))
      → IsRun service given acts → AreKeptBy given.reading (whole_after acts).fleet.system.log
  keeps_caps laws fleets acts run =
      laws.caps given.reading given.waits (base_of service) (whole_after acts).fleet.system.log
      (lawful laws fleets acts run).right

  pub executed : ControlLaws Q R → FleetLaws service → (acts : List (WholeAct M Q R)) → IsRun service given acts
      → AreByExecutors (whole_after acts).fleet.system.log
  executed laws fleets acts run =
      by_executors charter (whole_after acts).fleet.system.log (lawful laws fleets acts run).right

  pub whole_linear : ControlLaws Q R → FleetLaws service → (acts : List (WholeAct M Q R)) → IsRun service given acts
      → AreGivenAsked acts → IsLinear service (events_of (fleet_acts acts))
  whole_linear laws fleets acts run asked =
      fleets.linear charter (fleet_acts acts) refl (good_run laws fleets acts run).might
      (all_ask laws acts run asked)

  pub all_known : ControlLaws Q R → FleetLaws service → (acts : List (WholeAct M Q R)) → IsRun service given acts
      → AllByRecursion (λ (running : Running M Q R). IsTrueOf service (whole_after acts).fleet.system.log
      running.server) (whole_after acts).fleet.servers
      × AllByRecursion (GoesByStore given.reading.settings (whole_after acts).fleet.system.log)
      (whole_after acts).controls
  all_known laws fleets acts run =
      let good = good_run laws fleets acts run in
      let log = (whole_after acts).fleet.system.log in (
        subst (λ (fleet : Fleet M Q R). AllByRecursion (λ (running : Running M Q R). IsTrueOf service
            fleet.system.log running.server) fleet.servers) (sym (fleet_is acts))
            (fleets.known charter (fleet_acts acts) refl good.might),
        all_map (IsGoodControl given log) (GoesByStore given.reading.settings log) (λ control one. one.goes_by)
            (whole_after acts).controls good.controls,
      )

module _ {M Q R : Type 0} where
  -- the system of a run is that of its events
  pub system_is : ((acts : List (Act M Q R)) → (fleet_after acts).system ≡ system_after (events_of acts))
      → (acts : List (WholeAct M Q R)) → (whole_after acts).fleet.system ≡ system_after (events_of (fleet_acts acts))
  system_is fleets acts =
      ap (λ (fleet : Fleet M Q R). fleet.system) (fleet_is acts) ∙ fleets (fleet_acts acts)
