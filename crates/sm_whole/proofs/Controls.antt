-- The knowledge of a control stays true as the store goes on, and after each of its steps.
use Rattle.std.proofs.Common.{◌≡◌, ℕ, Bool, List, ◌++◌, Option, Some, None, refl, sym, subst, ◌∙◌}
use Rattle.std.specs.Option.{option_or}
use Rattle.sm_place.specs.Sound.{AreSound}
use Rattle.sm_desk.specs.declared.command.Command.{Command}
use Rattle.sm_desk.specs.Desk.{DeskView, commanded, desk_fault}
use Rattle.sm_store.specs.declared.item.Item.{Item}
use Rattle.sm_store.specs.Settings.{ControlSettings}
use Rattle.sm_store.specs.Deeds.{MaySend}
use Rattle.sm_store.specs.Store.{Transaction}
use Rattle.sm_store.specs.lemmas.Growth.{found_grows}
use Rattle.sm_lead.specs.declared.command_write.CommandWrite.{CommandWrite}
use Rattle.sm_lead.specs.declared.sent_command.SentCommand.{SentCommand}
use Rattle.sm_lead.specs.declared.store_control.StoreControl.{StoreControl}
use Rattle.sm_lead.specs.Commands.{IsAfter, command_fault, write_of}
use Rattle.sm_lead.specs.Controls.{CommandWasMade, GoesByStore, KnowsStore}
use Rattle.sm_lead.specs.Placements.{charter_of}
use Rattle.sm_lead.specs.Sendings.{command_transaction, sending_of}
use Rattle.sm_whole.specs.Runs.{Given, command_sent}

none_first : {A : Type 0} (a b : Option A) → option_or a b ≡ None → a ≡ None
none_first None b is = refl
none_first (Some x) b is = absurd cc

module _ {Q P : Type 0} where
  knows_grows : (more log : List (Transaction Q P)) (control : StoreControl) → KnowsStore log control
      → KnowsStore (more ++ log) control
  knows_grows more log control knows = record {
    led = record {
      was_elected = knows.led.was_elected;
      leads = found_grows _ _ more log _ _ knows.led.leads;
    };
    read = knows.read;
    placement_was = found_grows _ _ more log _ _ knows.placement_was;
    agrees = knows.agrees;
    records = knows.records;
    stood = λ k below. found_grows _ _ more log _ _ (knows.stood k below);
    count = knows.count;
    processes = knows.processes;
    run_count = knows.run_count;
  }

  pub goes_by_grows : (reading : List ℕ → Option ControlSettings) (more log : List (Transaction Q P))
      (control : StoreControl) → GoesByStore reading log control → GoesByStore reading (more ++ log) control
  unfolding knows_grows
  goes_by_grows reading more log control by = record {
    knows = knows_grows more log control by.knows;
    footing = found_grows _ _ more log _ _ by.footing;
  }

  -- a control whose settings are those of the store, and that waits as configured
  pub record IsGoodControl (given : Given) (log : List (Transaction Q P)) (control : StoreControl) : Type 0 where
    pub goes_by : GoesByStore given.reading.settings log control
    pub sound : AreSound control.desk.books
    pub waits : control.waits ≡ given.waits

  -- a command that such a control sent
  pub record IsGoodCommand (given : Given) (log : List (Transaction Q P)) (sent : SentCommand) : Type 0 where
    pub by : IsGoodControl given log sent.control
    pub allowed : command_fault sent.control sent.command ≡ None
    pub process : ℕ
    pub write : sent.write ≡ write_of sent.control process sent.command

  pub control_grows : (given : Given) (more log : List (Transaction Q P)) (control : StoreControl)
      → IsGoodControl given log control → IsGoodControl given (more ++ log) control
  control_grows given more log control good = record {
    goes_by = goes_by_grows given.reading.settings more log control good.goes_by;
    sound = good.sound;
    waits = good.waits;
  }

  pub command_grows : (given : Given) (more log : List (Transaction Q P)) (sent : SentCommand)
      → IsGoodCommand given log sent → IsGoodCommand given (more ++ log) sent
  command_grows given more log sent good = record {
    by = control_grows given more log sent.control good.by;
    allowed = good.allowed;
    process = good.process;
    write = good.write;
  }

  -- a command that was judged may be sent by the charter
  pub sent_may : (parts : List (Item Q) → List P) (given : Given) (log : List (Transaction Q P))
      (sent : SentCommand) → (good : IsGoodCommand given log sent)
      → MaySend (charter_of given.reading sent.control.waits parts) log
      (command_transaction (sending_of sent.control (write_of sent.control good.process sent.command)))
      → MaySend (charter_of given.reading given.waits parts) log (command_sent sent)
  sent_may parts given log sent good may =
      let control = sent.control in
      subst (λ (write : CommandWrite). MaySend (charter_of given.reading given.waits parts) log
      (command_transaction (sending_of control write))) (sym good.write)
      (subst (λ (waits : Bool). MaySend (charter_of given.reading waits parts) log
      (command_transaction (sending_of control (write_of control good.process sent.command)))) good.by.waits may)

  -- the control that sent a command knows the store once it is told that this was made
  pub left_knows : (given : Given) (log : List (Transaction Q P)) (sent : SentCommand)
      (revision : ℕ) (new : StoreControl) (good : IsGoodCommand given log sent)
      → ((desk : DeskView) (command : Command) → AreSound desk.books → desk_fault desk command ≡ None
      → AreSound (commanded desk command).books)
      → (IsAfter sent.control sent.command (write_of sent.control good.process sent.command) revision new
      → CommandWasMade log
      (command_transaction {Q = Q} {P = P} (sending_of sent.control (write_of sent.control good.process sent.command)))
      revision
      → GoesByStore given.reading.settings log new)
      → CommandWasMade log (command_sent {Q = Q} {P = P} sent) revision
      → IsAfter sent.control sent.command sent.write revision new → IsGoodControl given log new
  left_knows given log sent revision new good keeps known made after =
      let control = sent.control in
      let command = sent.command in
      record {
        goes_by = known
            (subst (λ (write : CommandWrite). IsAfter control command write revision new) good.write after)
            (subst (λ (write : CommandWrite). CommandWasMade log
            (command_transaction {Q = Q} {P = P} (sending_of control write)) revision) good.write made);
        sound = subst (λ (desk : DeskView). AreSound desk.books) (sym after.desk)
            (keeps control.desk command good.by.sound (none_first _ _ good.allowed));
        waits = after.waits ∙ good.by.waits;
      }
