use Rattle.std.proofs.Common.{List, sym, subst}
use Rattle.sm_store.specs.Deeds.{transaction_of}
use Rattle.sm_store.specs.Linear.{AsksFor}
use Rattle.sm_store.specs.System.{Ask}
use Rattle.sm_lead.specs.declared.command_sending.CommandSending.{CommandSending}
use Rattle.sm_lead.specs.declared.command_write.CommandWrite.{CommandWrite}
use Rattle.sm_lead.specs.declared.command_write.CommandWrite.TheVariants.{Record, State}
use Rattle.sm_lead.specs.Commands.{write_of}
use Rattle.sm_lead.specs.Sendings.{deed_of, sending_of}
use Rattle.sm_lead.proofs.laws.commands_ask_for_nothing.Goals as goal

asks_nothing : {Q : Type 0} (P : Type 0) (asked : List (Ask Q)) (sending : CommandSending) (write : CommandWrite)
    → AsksFor {P = P} asked (transaction_of (deed_of sending write))
asks_nothing P asked sending (Record shard change next) = λ k. tt
asks_nothing P asked sending (State server run) = λ k. tt

pub returns : goal.returns
returns g c = record {
  settings = λ asked control settings k. tt;
  commands = λ asked control process command txn is.
      subst (AsksFor asked) (sym is) (asks_nothing _ asked (sending_of control (write_of control process command))
      (write_of control process command));
}
